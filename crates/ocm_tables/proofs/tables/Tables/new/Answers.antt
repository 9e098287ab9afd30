use Rattle.std.proofs.Common.{◌≤◌, refl}
use Rattle.std.proofs.lemmas.List.Elements.{All-nil}
use Rattle.ocm_law_origins.specs.Origins.{Origin}
use Rattle.ocm_tables.proofs.tables.Tables.new.Goals as goal

pub invariant_of-result : goal.invariant_of-result
invariant_of-result c = rw (c.new-2.ensures.shares, c.new-3.ensures.origins, c.new-4.ensures.records, c.new-5.ensures) (record {
  each_told = refl;
  owned = refl;
  made = All-nil (λ (origin : Origin). origin.number ≤ 0);
})
