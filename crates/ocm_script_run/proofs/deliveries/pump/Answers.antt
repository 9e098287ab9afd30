use Rattle.ocm_script_run.proofs.Lines.{if_ok}
use Rattle.ocm_script_run.proofs.Posts.{Runs-pumped, Runs-unpumped}
use Rattle.ocm_script_run.proofs.deliveries.pump.Goals as goal

pub returns-in-Some : goal.returns-in-Some
returns-in-Some g c = if_ok c.pumped_from.result
    (λ text h world are. Runs-pumped g.S.ScriptServers.stand c.pumped_from.new.servers c.due_of.new.servers world c.args.line c.args.sender.now c.args.fresh c.in-Some.reply text (c.in-Some.ensures world are) h)
    c.pumped_from.ensures

pub returns-in-None : goal.returns-in-None
returns-in-None g c = λ world are. rw c.new.ensures (Runs-unpumped g.S.ScriptServers.stand c.due_of.new.servers world c.args.line c.args.sender.now c.args.fresh (c.in-None.ensures world are))
