use Rattle.ocm_law_traces.proofs.Written.{written-true}
use Rattle.ocm_law_traces.proofs.a_written_trace_is_found_true.Goals as goal

pub returns : goal.returns
returns c = λ host bytes text shelf writes few. written-true host bytes text shelf writes few
