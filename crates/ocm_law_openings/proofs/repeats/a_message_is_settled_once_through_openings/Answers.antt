use Rattle.ocm_law_openings.proofs.Repeating.{message-once}
use Rattle.ocm_law_openings.proofs.repeats.a_message_is_settled_once_through_openings.Goals as goal

pub returns : goal.returns
returns c = message-once
