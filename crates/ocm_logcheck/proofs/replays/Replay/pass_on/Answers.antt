use Rattle.ocm_logcheck.proofs.Going.{goes-clock, stays-clock}
use Rattle.ocm_logcheck.proofs.replays.Replay.pass_on.Goals as goal

pub returns-then-clock-self-clause-goes_on : goal.returns-then-clock-self-clause-goes_on
returns-then-clock-self-clause-goes_on c = λ host lines. stays-clock host lines c.args.self.now c.args.clock c.if-clock-self.true

pub returns-clause-goes_on : goal.returns-clause-goes_on
returns-clause-goes_on c = λ host lines. goes-clock host lines c.args.self.now c.args.clock c.if-clock-self.false
