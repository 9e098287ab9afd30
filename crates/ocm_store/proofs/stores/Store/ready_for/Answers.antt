use Rattle.ocm_store.proofs.Exits.{acts-wanting}
use Rattle.ocm_store.proofs.stores.Store.ready_for.Goals as goal

pub returns-in-Err-clause-replied : goal.returns-in-Err-clause-replied
returns-in-Err-clause-replied g c = acts-wanting g.D.Disk g.met.D.Disk.only_now c.args.self.now c.args.ask.now
