use Rattle.ocm_law_sessions.proofs.Rereading.{lean-opens}
use Rattle.ocm_law_sessions.proofs.records.a_lean_list_is_written_and_read.Goals as goal

pub returns : goal.returns
returns c = lean-opens
