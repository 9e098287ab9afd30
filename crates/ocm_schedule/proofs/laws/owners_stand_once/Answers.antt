use Rattle.ocm_schedule.proofs.KeptLemmas.{owners_stand_once}
use Rattle.ocm_schedule.proofs.laws.owners_stand_once.Goals as goal

pub returns : goal.returns
returns c = owners_stand_once
