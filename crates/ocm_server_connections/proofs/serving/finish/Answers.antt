use Rattle.std.proofs.Common.{Ok, Err, Some}
use Rattle.ocm_server_connections.specs.declared.endings.Ended.TheVariants as endings
use Rattle.ocm_server_connections.specs.Sides.{newest_of}
use Rattle.ocm_server_connections.proofs.Writings.{finished, finished_broken, finished_missed, finish_is}
use Rattle.ocm_server_connections.proofs.serving.finish.Goals as goal

pub returns-in-Ok-send : goal.returns-in-Ok-send
returns-in-Ok-send g c =
    let conn = g.C.Conn.sides c.args.conn.now in
    let moments = newest_of c.args.pass.now.moments in
    let after = g.C.Conn.sides c.send.new.self in
    finish_is conn after c.args.answer (Ok c.in-Ok.page) moments c.args.after c.args.after c.in-Ok.is
    (finished conn after c.in-Ok.page moments c.args.after _ c.in-Ok-send.ensures)

pub returns-in-Ok : goal.returns-in-Ok
returns-in-Ok g c =
    let conn = g.C.Conn.sides c.args.conn.now in
    let moments = newest_of c.args.pass.now.moments in
    let after = g.C.Conn.sides c.send.new.self in
    finish_is conn after c.args.answer (Ok c.in-Ok.page) moments c.args.after (Some endings.WriteFault) c.in-Ok.is
    (finished_broken conn after c.in-Ok.page moments c.args.after _ c.in-Err-send.ensures)

pub returns : goal.returns
returns g c =
    let conn = g.C.Conn.sides c.args.conn.now in
    let moments = newest_of c.args.pass.now.moments in
    let after = g.C.Conn.sides c.finish_missed.new.conn in
    finish_is conn after c.args.answer (Err c.in-Err.missed) moments c.args.after (Some c.finish_missed.result) c.in-Err.is
    (finished_missed conn after c.in-Err.missed moments c.args.after c.finish_missed.result c.finish_missed.ensures)
