use Rattle.ocm_law_logs.proofs.Truths.{logged-true}
use Rattle.ocm_law_logs.proofs.what_is_logged_is_true.Goals as goal

pub returns : goal.returns
returns c = logged-true
