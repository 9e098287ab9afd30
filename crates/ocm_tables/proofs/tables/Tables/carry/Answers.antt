use Rattle.std.proofs.Common.{Some}
use Rattle.ocm_rules.specs.Files.{Carried}
use Rattle.ocm_tables.proofs.Counted.{made-after}
use Rattle.ocm_tables.proofs.tables.Tables.carry.Goals as goal

pub invariant_of-self : goal.invariant_of-self
invariant_of-self c = rw c.carry.ensures.origins (record {
  each_told = c.self.invariant.each_told;
  owned = c.self.invariant.owned;
  made = made-after (Some (Carried c.args.carry.from c.args.carry.to c.args.carry.moving)) c.self.inside.entries c.self.inside.files.origins c.self.invariant.made;
})
