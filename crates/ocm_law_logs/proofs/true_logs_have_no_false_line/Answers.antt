use Rattle.ocm_law_sessions.proofs.Entries.{answered-kept}
use Rattle.ocm_law_sessions.proofs.Opening.{opened-answered}
use Rattle.ocm_law_logs.proofs.Truths.{all-later, none-false}
use Rattle.ocm_law_logs.proofs.true_logs_have_no_false_line.Goals as goal

pub returns-clause-later : goal.returns-clause-later
returns-clause-later c = all-later

pub returns-clause-journal : goal.returns-clause-journal
returns-clause-journal c = λ host later g k lines number form records opens same all.
    none-false host k number lines (answered-kept host k (opened-answered host form records k opens)) (all-later host later g k lines same all)
