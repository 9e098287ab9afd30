use Rattle.ocm_law_repeats.proofs.Offers.{settled-once}
use Rattle.ocm_law_repeats.proofs.a_message_is_settled_once.Goals as goal

pub returns : goal.returns
returns c = λ host g number status other_status id other_id legal repeated. settled-once host g number status other_status id other_id legal repeated
