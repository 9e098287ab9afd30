use Rattle.ocm_history.proofs.Memories.{made-of}
use Rattle.ocm_history.proofs.histories.History.make.Goals as goal

pub returns-clause-goes_on : goal.returns-clause-goes_on
returns-clause-goes_on c = λ g ask form draft change is bound.
    made-of c.args.self.now _ g ask c.args.planned form draft c.args.newest c.args.size c.apply.result change is bound c.apply.ensures.reply
    (c.apply.ensures.after g ask change.memory.lists change.plans) (c.apply.ensures.numbered g ask change.memory.lists change.memory.numbered change.plans) c.apply.ensures.host
    c.push.ensures.items c.push.ensures.asks c.push.ensures.size
