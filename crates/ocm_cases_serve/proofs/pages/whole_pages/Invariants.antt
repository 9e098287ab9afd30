use denote.Text.{Utf8}
use denote.Shadow.{shadow}
use Rattle.ocm_cases_serve.proofs.pages.whole_pages.Given as goal

abbrev pub invariant-loop-page : goal.invariant-loop-page
invariant-loop-page l =
    (goal.iterator-loop-page).can_next l.page-iterator × (goal.iterator-loop-page).is_finite l.page-iterator × shadow (Utf8 l.rest)
