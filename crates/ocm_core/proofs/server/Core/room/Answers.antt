use Rattle.std.proofs.Common.{length, ap, arith}
use Rattle.ocm_core.proofs.Reached.{planned-numbers}
use Rattle.ocm_core.proofs.server.Core.room.Goals as goal

pub overflow_cast-len : goal.overflow_cast-len
overflow_cast-len c =
    omega (arith, planned-numbers c.self.inside.tables.state c.args.planned.now c.self.invariant (rw c.self.view_is c.requires), ap length c.sent.ensures, c.len.ensures)
