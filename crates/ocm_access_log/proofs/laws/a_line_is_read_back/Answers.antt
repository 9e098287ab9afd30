use Rattle.ocm_access_log.proofs.LogBack.{line-back}
use Rattle.ocm_access_log.proofs.laws.a_line_is_read_back.Goals as goal

pub returns : goal.returns
returns c = line-back
