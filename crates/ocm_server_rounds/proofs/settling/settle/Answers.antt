use Rattle.ocm_server_rounds.proofs.Rounding.{limit_reached, replied}
use Rattle.ocm_server_rounds.proofs.settling.settle.Goals as goal

pub returns-in-Ok-clause-settles : goal.returns-in-Ok-clause-settles
returns-in-Ok-clause-settles g c =
    replied c.args.message.now c.args.answered c.args.pass.now c.ask_node.new.pass c.in-Ok.reply c.end_after.result c.in-Ok.ensures.ok c.end_after.ensures

pub returns-in-Err-clause-settles : goal.returns-in-Err-clause-settles
returns-in-Err-clause-settles g c = limit_reached c.args.message.now c.args.answered c.args.pass.now c.ask_node.new.pass c.in-Err.ensures.err
