use Rattle.ocm_law_openings.proofs.Repeating.{taken-once, unchanged-kept, unchanged-reply}
use Rattle.ocm_law_openings.proofs.repeats.a_repeat_changes_nothing_through_openings.Goals as goal

pub returns-clause-nothing : goal.returns-clause-nothing
returns-clause-nothing c = taken-once

pub returns-clause-kept : goal.returns-clause-kept
returns-clause-kept c = λ host p older ask reply follow taken other told.
    let same = taken-once host p older ask follow taken other in
    (unchanged-reply host p.area p.base p.calls ask reply same told, unchanged-kept host p.area p.base p.calls ask reply same told)
