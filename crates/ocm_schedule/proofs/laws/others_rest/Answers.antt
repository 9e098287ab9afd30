use Rattle.ocm_schedule.proofs.KeptLemmas.{others_rest}
use Rattle.ocm_schedule.proofs.laws.others_rest.Goals as goal

pub returns : goal.returns
returns c = others_rest
