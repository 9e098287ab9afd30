use Rattle.ocm_logcheck.proofs.replays.Replay.take_said.Goals as goal

pub returns-in-Moment-clause-goes_on : goal.returns-in-Moment-clause-goes_on
returns-in-Moment-clause-goes_on c = rw c.in-Moment.is (λ host. c.pass.ensures.goes_on host c.args.lines.now)

pub returns-in-Bare-clause-goes_on : goal.returns-in-Bare-clause-goes_on
returns-in-Bare-clause-goes_on c = rw c.in-Bare.is c.take_ask.ensures.goes_on

pub returns-in-Timed-clause-goes_on : goal.returns-in-Timed-clause-goes_on
returns-in-Timed-clause-goes_on c = rw c.in-Timed.is c.take_timed.ensures.goes_on
