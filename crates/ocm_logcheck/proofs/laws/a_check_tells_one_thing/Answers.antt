use Rattle.ocm_logcheck.proofs.Telling.{checks-one}
use Rattle.ocm_logcheck.proofs.laws.a_check_tells_one_thing.Goals as goal

pub returns : goal.returns
returns c = checks-one
