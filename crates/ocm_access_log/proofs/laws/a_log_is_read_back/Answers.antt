use Rattle.ocm_access_log.proofs.LogBack.{log-back}
use Rattle.ocm_access_log.proofs.laws.a_log_is_read_back.Goals as goal

pub returns : goal.returns
returns c = log-back 1 0 0
