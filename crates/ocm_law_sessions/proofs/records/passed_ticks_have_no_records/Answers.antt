use Rattle.ocm_law_sessions.proofs.Passing.{lean-records}
use Rattle.ocm_law_sessions.proofs.records.passed_ticks_have_no_records.Goals as goal

pub returns : goal.returns
returns c = lean-records
