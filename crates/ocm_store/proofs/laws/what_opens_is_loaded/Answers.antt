use Rattle.ocm_store.proofs.Opens.{loaded-opens, opens-loaded}
use Rattle.ocm_store.proofs.laws.what_opens_is_loaded.Goals as goal

pub returns-clause-loaded : goal.returns-clause-loaded
returns-clause-loaded c = opens-loaded

pub returns-clause-opens : goal.returns-clause-opens
returns-clause-opens c = loaded-opens
