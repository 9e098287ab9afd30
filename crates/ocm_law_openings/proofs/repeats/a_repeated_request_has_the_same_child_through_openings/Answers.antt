use Rattle.ocm_law_openings.proofs.Repeating.{child-again}
use Rattle.ocm_law_openings.proofs.repeats.a_repeated_request_has_the_same_child_through_openings.Goals as goal

pub returns : goal.returns
returns c = child-again
