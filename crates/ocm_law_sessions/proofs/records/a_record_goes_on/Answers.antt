use Rattle.ocm_law_sessions.proofs.Opening.{opened-more}
use Rattle.ocm_law_sessions.proofs.records.a_record_goes_on.Goals as goal

pub returns : goal.returns
returns c = opened-more
