use Rattle.ocm_entry.specs.declared.asks.Ask.TheVariants.{Settle}
use Rattle.ocm_law_world.proofs.Settling.{nothing-settled, same-kept}
use Rattle.ocm_law_world.proofs.settlements.what_settles_nothing_changes_nothing.Goals as goal

pub returns-clause-told : goal.returns-clause-told
returns-clause-told c = λ host s number status id reply none told. (nothing-settled host s number status id reply none told).0

pub returns-clause-same : goal.returns-clause-same
returns-clause-same c = λ host s number status id reply none told. same-kept host s (Settle number status id) reply (nothing-settled host s number status id reply none told).1
