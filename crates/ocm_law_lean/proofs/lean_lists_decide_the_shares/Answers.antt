use Rattle.ocm_law_lean.proofs.Readings.{made-same, live-same}
use Rattle.ocm_law_lean.proofs.lean_lists_decide_the_shares.Goals as goal

pub returns-clause-made : goal.returns-clause-made
returns-clause-made c = λ host g other same. made-same host g other same

pub returns-clause-live : goal.returns-clause-live
returns-clause-live c = λ host g other i same. live-same host g other i same
