use Rattle.ocm_core.proofs.Reached.{planned-numbers}
use Rattle.ocm_core.proofs.server.Core.answer_counted.Goals as goal

pub returns-clause-numbers : goal.returns-clause-numbers
returns-clause-numbers g c = rw (← c.self.view_is) (planned-numbers c.self.inside.tables.state c.in_ok-planned.planned c.self.invariant (c.args.ask.now, c.in_ok-planned.ensures.plans))
