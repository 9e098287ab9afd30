use Rattle.ocm_turn.proofs.MoveLemmas.{moved_call, moved_refused}
use Rattle.ocm_server_connections.proofs.Paging.{call_page}
use Rattle.ocm_server_connections.proofs.answering.ask_node.Goals as goal

pub returns-clause-ok : goal.returns-clause-ok
returns-clause-ok g c = moved_call c.args.pass.now c.call.new.pass c.args.ask c.call.result c.call.ensures.ground c.call.ensures.seen c.call.ensures.mine c.call.ensures.drawn c.call.ensures.moments c.call.ensures.paired

pub returns-clause-page : goal.returns-clause-page
returns-clause-page g c = call_page g.T.Object.legal g.met.T.Object.fits c.args.ask c.args.pass.now c.call.new.pass c.call.result c.requires.requested c.call.ensures.legal c.call.ensures.seen

pub returns-clause-err : goal.returns-clause-err
returns-clause-err g c = moved_refused c.args.pass.now c.call.new.pass c.call.result c.call.ensures.ground c.call.ensures.nothing c.call.ensures.drawn c.call.ensures.no_moment c.call.ensures.paired
