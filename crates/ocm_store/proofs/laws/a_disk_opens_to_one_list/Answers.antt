use Rattle.ocm_store.proofs.Opens.{opens-once}
use Rattle.ocm_store.proofs.laws.a_disk_opens_to_one_list.Goals as goal

pub returns : goal.returns
returns c = opens-once
