use Rattle.ocm_law_sessions.proofs.Rereading.{written-opens}
use Rattle.ocm_law_sessions.proofs.records.what_is_written_is_read.Goals as goal

pub returns : goal.returns
returns c = written-opens
