use Rattle.std.proofs.Common.{refl, ◌∙◌}
use Rattle.ocm_tables.specs.Tables.{is_owned}
use Rattle.ocm_tables.proofs.Owned.{all-changed}
use Rattle.ocm_tables.proofs.tables.Tables.close.Goals as goal

pub invariant_of-self : goal.invariant_of-self
invariant_of-self c = rw c.close.ensures.shares (record {
  each_told = c.self.invariant.each_told;
  owned = all-changed (is_owned c.self.inside.users.users) c.args.id _ c.self.inside.shares.shares (λ row. refl) ∙ c.self.invariant.owned;
  made = c.self.invariant.made;
})
