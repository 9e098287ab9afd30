use Rattle.std.proofs.Common.{[], ◌∙◌, subst, List}
use Rattle.ocm_script.specs.declared.events.Event.{Event}
use Rattle.ocm_script_run.specs.Drills.{Texts}
use Rattle.ocm_script_run.proofs.Lines.{if_ok}
use Rattle.ocm_script_run.proofs.Properly.{proper-lines}
use Rattle.ocm_script_run.proofs.drills.summarise.Goals as goal

pub tally_lines-tally-requires-clause-proper : goal.tally_lines-tally-requires-clause-proper
tally_lines-tally-requires-clause-proper g c = rw c.as_slice.ensures (proper-lines c.in_ok-script.script c.in_ok-script.ensures.short)

pub returns : goal.returns
returns g c = if_ok c.with_counts.result
    (λ text is.
    let ran = rw c.in_ok-tally.was at c.tally_lines-tally.ensures in
    (ran.0, ran.1, subst (λ (script : List Event). Texts [] 1 script ran.0 ran.1) (c.as_slice.ensures ∙ c.in_ok-script.ensures.made) ran.2, ran.3, is ran.0 ran.1 ran.4 ran.3))
    c.with_counts.ensures
