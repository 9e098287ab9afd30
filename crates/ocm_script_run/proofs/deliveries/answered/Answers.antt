use Rattle.std.proofs.Common.{[]}
use Rattle.ocm_script_run.proofs.Lines.{if_ok}
use Rattle.ocm_script_run.proofs.Posts.{Runs-back}
use Rattle.ocm_script_run.proofs.deliveries.answered.Goals as goal

pub returns-then-lost : goal.returns-then-lost
returns-then-lost g c = λ world are. rw c.if-lost.true ([], (rw c.deref.ensures at c.in_ok-text.ensures), are)

pub returns : goal.returns
returns g c = if_ok c.come_back.result
    (λ text h world are. Runs-back g.S.ScriptServers.stand c.come_back.new.servers world c.args.line c.args.sender.now c.args.lost c.args.message.now c.args.reply.now c.in_ok-text.text c.in_ok-ask.ask text c.if-lost.false (rw c.deref.ensures at c.in_ok-text.ensures) c.in_ok-ask.ensures.ask (h world are))
    c.come_back.ensures
