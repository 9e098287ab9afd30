use Rattle.ocm_compact.proofs.replays.Replay.take_said.Goals as goal

pub returns-in-Bare-clause-goes_on : goal.returns-in-Bare-clause-goes_on
returns-in-Bare-clause-goes_on c = rw c.in-Bare.is c.take.ensures.goes_on

pub returns-in-Moment-clause-goes_on : goal.returns-in-Moment-clause-goes_on
returns-in-Moment-clause-goes_on c = rw c.in-Moment.is c.take_tick.ensures.goes_on
