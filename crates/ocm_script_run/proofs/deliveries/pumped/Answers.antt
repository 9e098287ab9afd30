use Rattle.std.proofs.Common.{List, [], refl, subst}
use Rattle.ocm_script_run.proofs.Lines.{Runs-same, if_ok}
use Rattle.ocm_types.specs.declared.letters.Numbered.{Numbered}
use Rattle.ocm_script_run.specs.Deliveries.{all_delivered, nothing}
use Rattle.ocm_script_run.specs.Running.{Runs}
use Rattle.ocm_script_run.proofs.Posts.{none_by, pumped-none, pumped-other, pumped-some, some_not}
use Rattle.ocm_script_run.proofs.deliveries.pumped.Goals as goal

pub returns-in_default : goal.returns-in_default
returns-in_default g c = if_ok c.reply_lines.result
    (λ text e world are. rw e (Runs-same g.S.ScriptServers.stand _ _ c.args.servers.now _ (λ w. pumped-other w world c.args.line c.args.sender.now c.args.fresh c.args.reply.now c.in_default.not-Due) ([], refl, are)))
    c.reply_lines.ensures

pub returns-then-is_empty : goal.returns-then-is_empty
returns-then-is_empty g c = if_ok c.line_text.result
    (λ text e world are. rw e (Runs-same g.S.ScriptServers.stand _ (λ w. nothing world c.args.line) c.args.servers.now _
    (λ w. pumped-none w world c.args.line c.args.sender.now c.args.fresh c.args.reply.now c.in-Due.messages c.in-Due.is (none_by c.in-Due.messages c.if-is_empty.ensures)) ([], refl, are)))
    c.line_text.ensures

pub returns : goal.returns
returns g c = if_ok c.all_delivered.result
    (λ text h world are. Runs-same g.S.ScriptServers.stand _ (λ w. all_delivered w world c.args.line c.args.sender.now c.args.fresh 0 c.in-Due.messages) c.all_delivered.new.servers text
    (λ w. pumped-some w world c.args.line c.args.sender.now c.args.fresh c.args.reply.now c.in-Due.messages c.in-Due.is (some_not c.in-Due.messages c.if-is_empty.ensures))
    (subst (λ (messages : List Numbered). Runs g.S.ScriptServers.stand (λ w. all_delivered w world c.args.line c.args.sender.now c.args.fresh 0 messages) c.all_delivered.new.servers text) c.as_slice.ensures (h world are)))
    c.all_delivered.ensures
