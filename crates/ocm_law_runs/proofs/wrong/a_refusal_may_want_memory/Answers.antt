use Rattle.std.proofs.Common.{true}
use Rattle.ocm_law_runs.proofs.Printing.{no_memory-text}
use Rattle.ocm_law_runs.proofs.wrong.a_refusal_may_want_memory.Goals as goal

pub returns : goal.returns
returns c = no_memory-text 1 true
