use Rattle.std.proofs.Common.{sym, ap, ◌∙◌}
use Rattle.ocm_access_log.specs.Truth.{is_true}
use Rattle.ocm_law_sessions.proofs.Entries.{answered-kept}
use Rattle.ocm_law_sessions.proofs.Opening.{opened-answered}
use Rattle.ocm_law_logs.specs.Logged.{line_after}
use Rattle.ocm_law_logs.proofs.Truths.{logged-true, true-later}
use Rattle.ocm_law_logs.proofs.what_was_logged_stays_true.Goals as goal

pub returns-clause-later : goal.returns-clause-later
returns-clause-later c = λ host later g next ask status is answered same. true-later host later g next (line_after host g ask status) is same (logged-true host g ask status is answered)

pub returns-clause-journal : goal.returns-clause-journal
returns-clause-journal c = λ host later g k ask status form records is answered opens same.
    ap (λ l. is_true host l (line_after host g ask status)) (sym (answered-kept host k (opened-answered host form records k opens)))
    ∙ true-later host later g k (line_after host g ask status) is same (logged-true host g ask status is answered)
