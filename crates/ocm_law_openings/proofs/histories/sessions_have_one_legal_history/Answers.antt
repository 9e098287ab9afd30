use Rattle.ocm_law_openings.proofs.OneHistory.{one_history}
use Rattle.ocm_law_openings.proofs.histories.sessions_have_one_legal_history.Goals as goal

pub returns : goal.returns
returns c = one_history
