use Rattle.ocm_serve_store.proofs.Answering.{err-since, err-stays, ok-since, told-terms}
use Rattle.ocm_serve_store.proofs.following.FollowedDated.step.Goals as goal

pub returns-clause-terms : goal.returns-clause-terms
returns-clause-terms g c = told-terms g.D.Disk c.args.self.now c.try_answer.new.self c.args.ask c.try_answer.ensures.born c.try_answer.result c.try_answer.ensures.replied c.try_answer.ensures.busy

pub returns-clause-replied : goal.returns-clause-replied
returns-clause-replied g c = ok-since g.D.Disk c.args.self.now c.try_answer.new.self c.args.ask c.try_answer.ensures.born c.try_answer.result c.try_answer.ensures.replied

pub returns-clause-busy : goal.returns-clause-busy
returns-clause-busy g c = err-since g.D.Disk c.args.self.now c.try_answer.new.self c.args.ask c.try_answer.ensures.born c.try_answer.result c.try_answer.ensures.busy

pub returns-clause-stays : goal.returns-clause-stays
returns-clause-stays g c = err-stays g.D.Disk c.args.self.now c.try_answer.new.self c.args.ask c.try_answer.ensures.born c.try_answer.result c.try_answer.ensures.busy
