use Rattle.std.proofs.Common.{Some, refl}
use Rattle.ocm_pump.specs.Exchanges.{exchanged}
use Rattle.ocm_pump.specs.Replies.{answered, short}
use Rattle.ocm_pump.proofs.replies.send.Goals as goal

pub returns-in-Ok-clause-exact : goal.returns-in-Ok-clause-exact
returns-in-Ok-clause-exact g c =
    (exchanged c.args.host.now c.args.request.now (Some c.in-Ok.bytes), c.in-Ok.ensures.added, answered c.in-Ok.bytes refl c.read_reply.ensures)

pub returns-in-Err-NoMemory-clause-exact : goal.returns-in-Err-NoMemory-clause-exact
returns-in-Err-NoMemory-clause-exact g c =
    let made = rw c.in-Err-NoMemory.field-0-is at c.in-Err-NoMemory.ensures.added in
    (made.0, made.1, short made.2 refl)
