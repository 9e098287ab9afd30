use Rattle.ocm_script_run.proofs.Lines.{Runs-answered, Runs-unanswered, if_ok}
use Rattle.std.specs.Prelude.{codes}
use Rattle.ocm_entry.specs.declared.replies.Reply.{Reply}
use Rattle.ocm_transcript.specs.Texts.{told_line}
use Rattle.ocm_script_run.proofs.deliveries.come_back.Goals as goal

pub returns-in-Some : goal.returns-in-Some
returns-in-Some g c = if_ok c.with_back.result
    (λ text e world are. rw e (Runs-answered g.S.ScriptServers.stand c.ask.new.self world c.args.sender.now c.args.ask c.in-Some.reply c.args.front (λ (reply : Reply). told_line c.args.line (codes "back") c.args.sender.now reply) (c.in-Some.ensures world are)))
    c.with_back.ensures

pub returns-in-None : goal.returns-in-None
returns-in-None g c = λ world are. Runs-unanswered g.S.ScriptServers.stand c.ask.new.self world c.args.sender.now c.args.ask c.args.front (λ (reply : Reply). told_line c.args.line (codes "back") c.args.sender.now reply) (c.in-None.ensures world are)
