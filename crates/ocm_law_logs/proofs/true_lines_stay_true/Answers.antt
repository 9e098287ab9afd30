use Rattle.ocm_law_logs.proofs.Truths.{true-later, true-crash}
use Rattle.ocm_law_logs.proofs.true_lines_stay_true.Goals as goal

pub returns-clause-later : goal.returns-clause-later
returns-clause-later c = true-later

pub returns-clause-crash : goal.returns-clause-crash
returns-clause-crash c = true-crash
