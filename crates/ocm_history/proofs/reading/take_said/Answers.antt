use Rattle.ocm_history.proofs.Going.{takes-asked}
use Rattle.ocm_history.proofs.reading.take_said.Goals as goal

pub returns-in-Bare-clause-goes_on : goal.returns-in-Bare-clause-goes_on
returns-in-Bare-clause-goes_on c =
    rw c.in-Bare.is (takes-asked c.args.history.now c.take.new.self _ c.take.result c.take.ensures.home c.take.ensures.taken c.take.ensures.goes_on)

pub returns-in-Moment-clause-goes_on : goal.returns-in-Moment-clause-goes_on
returns-in-Moment-clause-goes_on c =
    rw c.in-Moment.is (takes-asked c.args.history.now c.take_tick.new.self _ c.take_tick.result c.take_tick.ensures.home c.take_tick.ensures.taken c.take_tick.ensures.goes_on)
