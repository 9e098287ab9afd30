use Rattle.ocm_store.proofs.Exits.{acts-wanting}
use Rattle.ocm_store.proofs.stores.Store.reply.Goals as goal

pub returns-in-Err : goal.returns-in-Err
returns-in-Err g c = acts-wanting g.D.Disk g.met.D.Disk.only_now c.args.self.now c.args.ask.now
