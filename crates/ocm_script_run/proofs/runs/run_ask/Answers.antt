use Rattle.std.proofs.Common.{[]}
use Rattle.ocm_script_run.proofs.Lines.{Runs-answered, Runs-unanswered, if_ok}
use Rattle.ocm_entry.specs.declared.replies.Reply.{Reply}
use Rattle.ocm_transcript.specs.Texts.{reply_lines}
use Rattle.ocm_script_run.proofs.runs.run_ask.Goals as goal

pub returns-in-Some : goal.returns-in-Some
returns-in-Some g c = if_ok c.reply_lines-lines.result
    (λ text e world are. rw e (Runs-answered g.S.ScriptServers.stand c.ask.new.self world c.args.host.now c.args.ask c.in-Some.reply [] (λ (reply : Reply). reply_lines c.args.line c.args.digits reply) (c.in-Some.ensures world are)))
    c.reply_lines-lines.ensures

pub returns-in-None : goal.returns-in-None
returns-in-None g c = rw c.new.ensures (λ world are. Runs-unanswered g.S.ScriptServers.stand c.ask.new.self world c.args.host.now c.args.ask [] (λ (reply : Reply). reply_lines c.args.line c.args.digits reply) (c.in-None.ensures world are))
