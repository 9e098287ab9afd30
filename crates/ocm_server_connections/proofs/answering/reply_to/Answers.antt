use Rattle.std.proofs.Common.{sym, ◌∙◌}
use Rattle.ocm_server_connections.proofs.Replying.{unticked, only_told, asked_too}
use Rattle.ocm_server_connections.proofs.answering.reply_to.Goals as goal

pub returns-then-is_done-clause-replied : goal.returns-then-is_done-clause-replied
returns-then-is_done-clause-replied g c =
    asked_too c.args.pass.now c.ask_node.new.pass c.ask_node-then-is_done.new.pass c.args.ask c.args.clock c.in-Ok.told c.ask_node-then-is_done.result
    c.in-Ok.ensures.ok (sym c.is_done.ensures ∙ c.if-is_done.true) c.ask_node-then-is_done.ensures.ok c.ask_node-then-is_done.ensures.err

pub returns-else-is_done-clause-replied : goal.returns-else-is_done-clause-replied
returns-else-is_done-clause-replied g c =
    only_told c.args.pass.now c.ask_node.new.pass c.args.ask c.args.clock c.in-Ok.told c.in-Ok.ensures.ok (sym c.is_done.ensures ∙ c.if-is_done.false)

pub returns-in-Err-clause-replied : goal.returns-in-Err-clause-replied
returns-in-Err-clause-replied g c = unticked c.args.pass.now c.ask_node.new.pass c.args.ask c.args.clock c.in-Err.spent c.in-Err.ensures.err
