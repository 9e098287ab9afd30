use Rattle.ocm_law_logs.proofs.Truths.{line-same}
use Rattle.ocm_law_logs.proofs.lean_lists_decide_the_line.Goals as goal

pub returns : goal.returns
returns c = line-same
