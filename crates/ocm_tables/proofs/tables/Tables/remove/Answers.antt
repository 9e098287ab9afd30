use Rattle.std.proofs.Common.{Some}
use Rattle.ocm_rules.specs.Files.{Gone}
use Rattle.ocm_tables.proofs.Counted.{made-after}
use Rattle.ocm_tables.proofs.tables.Tables.remove.Goals as goal

pub invariant_of-self : goal.invariant_of-self
invariant_of-self c = rw c.remove.ensures.origins (record {
  each_told = c.self.invariant.each_told;
  owned = c.self.invariant.owned;
  made = made-after (Some (Gone c.args.place.now)) c.self.inside.entries c.self.inside.files.origins c.self.invariant.made;
})
