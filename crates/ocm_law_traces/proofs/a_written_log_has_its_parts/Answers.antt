use Rattle.ocm_law_traces.proofs.Written.{parts-back}
use Rattle.ocm_law_traces.proofs.a_written_log_has_its_parts.Goals as goal

pub returns : goal.returns
returns c = λ image log few. parts-back image log few
