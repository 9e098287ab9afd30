use Rattle.std.proofs.Common.{◌∙◌, List, Option, sym, subst}
use Rattle.ocm_pump.specs.declared.exchanges.Exchange.{Exchange}
use Rattle.ocm_server_rounds.specs.Rounds.{Tried, hold}
use Rattle.ocm_server_rounds.proofs.Rounding.{tried_settled, tried_unanswered, tried_waiting, not_spent_by}
use Rattle.ocm_server_rounds.proofs.settling.try_message.Goals as goal

pub returns-in-Some-Ok-clause-tried : goal.returns-in-Some-Ok-clause-tried
returns-in-Some-Ok-clause-tried g c =
    subst (λ (told : Option (List Exchange)). Tried c.args.message.now (hold c.args.pass.now (g.N.Post.exchanges c.args.post.now)) (hold c.settle.new.pass told) c.settle.result.settled c.settle.result.end)
    (sym c.settle.ensures.same.0)
    (tried_settled c.args.message.now c.in-Some-Ok.answered c.args.pass.now c.settle.new.pass (g.N.Post.exchanges c.args.post.now) (g.N.Post.exchanges c.deliver.new.self) _ c.settle.result.settled c.settle.result.end
    c.in-Some-Ok.ensures.came c.in-Some-Ok.field-0-is c.settle.ensures.settles)

pub returns-in-Some-Err-clause-tried : goal.returns-in-Some-Err-clause-tried
returns-in-Some-Err-clause-tried g c =
    tried_unanswered c.args.message.now c.args.pass.now (g.N.Post.exchanges c.args.post.now) (g.N.Post.exchanges c.deliver.new.self) _ c.in-Some-Err.fault c.end_by.result c.in-Some-Err.ensures.came c.in-Some-Err.field-0-is c.end_by.ensures

pub returns-in-Some-Err-clause-spent : goal.returns-in-Some-Err-clause-spent
returns-in-Some-Err-clause-spent g c = λ e. absurd (not_spent_by c.in-Some-Err.fault (sym c.end_by.ensures ∙ e))

pub returns-in-None-clause-tried : goal.returns-in-None-clause-tried
returns-in-None-clause-tried g c =
    tried_waiting c.args.message.now c.args.pass.now (g.N.Post.exchanges c.args.post.now) (g.N.Post.exchanges c.deliver.new.self) c.in-None.ensures.waits
