use Rattle.ocm_turn.proofs.MoveLemmas.{moved_call, moved_refused}
use Rattle.ocm_server_rounds.proofs.settling.ask_node.Goals as goal

pub returns-clause-ok : goal.returns-clause-ok
returns-clause-ok g c = moved_call c.args.pass.now c.call.new.pass c.args.ask c.call.result c.call.ensures.ground c.call.ensures.seen c.call.ensures.mine c.call.ensures.drawn c.call.ensures.moments c.call.ensures.paired

pub returns-clause-err : goal.returns-clause-err
returns-clause-err g c = moved_refused c.args.pass.now c.call.new.pass c.call.result c.call.ensures.ground c.call.ensures.nothing c.call.ensures.drawn c.call.ensures.no_moment c.call.ensures.paired
