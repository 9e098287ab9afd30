use Rattle.std.proofs.Common.{sym, ◌∙◌}
use Rattle.ocm_history.specs.Histories.{home_of}
use Rattle.ocm_history.specs.Replays.{GoesOn}
use Rattle.ocm_law_sessions.specs.Readings.{goes_on, with_stamped}
use Rattle.ocm_history.proofs.Going.{goes-said, goes-unsaid, if-ok}
use Rattle.ocm_history.proofs.reading.take_record.Goals as goal

pub returns-in-Ok-Some-clause-goes_on : goal.returns-in-Ok-Some-clause-goes_on
returns-in-Ok-Some-clause-goes_on c =
    let old = c.args.history.now in
    let new = c.take_said-taken.new.history in
    if-ok c.take_said-taken.result (GoesOn old new (with_stamped (home_of old) c.in-Ok-Some.said)) (GoesOn old new (λ k. goes_on (home_of old) c.args.form k c.args.bytes.now))
    (λ taken goes. goes-said old new c.args.form c.args.bytes.now c.in-Ok-Some.said taken
    (sym c.in-Ok-Some.ensures.says ∙ c.in-Ok-Some.field-0-is) goes)
    c.take_said-taken.ensures.goes_on

pub returns-in-Ok-None-clause-goes_on : goal.returns-in-Ok-None-clause-goes_on
returns-in-Ok-None-clause-goes_on c =
    goes-unsaid c.args.history.now c.args.form c.args.bytes.now (sym c.in-Ok-None.ensures.says ∙ c.in-Ok-None.field-0-is)
