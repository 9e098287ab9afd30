use Rattle.ocm_logcheck.proofs.Going.{goes-tick, stays-tick}
use Rattle.ocm_logcheck.proofs.replays.Replay.pass.Goals as goal

pub returns-then-clock-self-clause-goes_on : goal.returns-then-clock-self-clause-goes_on
returns-then-clock-self-clause-goes_on c = λ host lines. stays-tick host lines c.args.self.now c.args.clock c.if-clock-self.true

pub returns-clause-goes_on : goal.returns-clause-goes_on
returns-clause-goes_on c = λ host lines. goes-tick host lines c.args.self.now c.args.clock c.if-clock-self.false
