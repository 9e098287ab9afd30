use Rattle.ocm_script_run.proofs.Lines.{if_ok}
use Rattle.ocm_script_run.proofs.Posts.{Runs-given, Runs-unreachable}
use Rattle.ocm_script_run.proofs.deliveries.given.Goals as goal

pub returns-in-Some : goal.returns-in-Some
returns-in-Some g c = if_ok c.answered-text.result
    (λ text h world are. Runs-given g.S.ScriptServers.stand c.answered-text.new.servers c.ask.new.self world c.args.line c.args.sender.now c.args.lost c.args.message.now c.args.ask c.in-Some.reply text ((rw c.deref.ensures at c.in-Some.ensures) world are) h)
    c.answered-text.ensures

pub returns-in-None : goal.returns-in-None
returns-in-None g c = if_ok c.unreachable_line.result
    (λ text e world are. rw e (Runs-unreachable g.S.ScriptServers.stand c.ask.new.self world c.args.line c.args.sender.now c.args.lost c.args.message.now c.args.ask ((rw c.deref.ensures at c.in-None.ensures) world are)))
    (rw c.deref-in-None.ensures at c.unreachable_line.ensures)
