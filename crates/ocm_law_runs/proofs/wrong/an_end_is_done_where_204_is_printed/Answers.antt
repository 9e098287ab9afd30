use Rattle.std.proofs.Common.{true}
use Rattle.ocm_law_runs.proofs.Printing.{no_memory-text}
use Rattle.ocm_law_runs.proofs.wrong.an_end_is_done_where_204_is_printed.Goals as goal

pub returns-clause-printed : goal.returns-clause-printed
returns-clause-printed c = no_memory-text 1 true
