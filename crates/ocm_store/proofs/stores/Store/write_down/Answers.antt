use Rattle.std.proofs.Common.{refl}
use Rattle.ocm_store.proofs.stores.Store.write_down.Goals as goal

pub returns : goal.returns
returns G c = λ ask ready.
    c.settle-reply.ensures.acts c.args.self.now ask _ refl c.requires.goes ready (c.append_once-appended.ensures.appended c.args.self.now.journal refl)
