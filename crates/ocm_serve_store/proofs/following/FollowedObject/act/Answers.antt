use Rattle.ocm_serve_store.proofs.Answering.{legal-since, origin-stays, stands-since}
use Rattle.ocm_serve_store.proofs.following.FollowedObject.act.Goals as goal

pub returns-clause-terms : goal.returns-clause-terms
returns-clause-terms g c = origin-stays g.D.Disk c.args.self.now c.answer.new.self c.args.ask c.answer.result c.answer.ensures.acts c.answer.ensures.born

pub returns-clause-stands : goal.returns-clause-stands
returns-clause-stands g c = stands-since g.D.Disk c.args.self.now c.answer.new.self c.args.ask c.answer.result c.answer.ensures.acts c.answer.ensures.born

pub returns-clause-legal : goal.returns-clause-legal
returns-clause-legal g c = legal-since g.D.Disk c.args.self.now c.answer.new.self c.args.ask c.answer.result c.answer.ensures.acts c.answer.ensures.born
