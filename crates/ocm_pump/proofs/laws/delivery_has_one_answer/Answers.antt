use Rattle.ocm_pump.proofs.OneAnswers.{delivers_one}
use Rattle.ocm_pump.proofs.laws.delivery_has_one_answer.Goals as goal

pub returns : goal.returns
returns c = delivers_one
