use Rattle.ocm_world.proofs.Tracing.{traced-logged, traced-run}
use Rattle.ocm_law_traces.proofs.a_traced_run_has_a_transcript.Goals as goal

pub returns : goal.returns
returns c = λ world final number host text log events traced. (traced-run world number host events text log final traced, traced-logged world number host events text log final traced)
