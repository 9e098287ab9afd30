use Rattle.ocm_law_repeats.proofs.Children.{same-child}
use Rattle.ocm_law_repeats.proofs.a_repeated_request_has_the_same_child.Goals as goal

pub returns : goal.returns
returns c = λ host g id secret with sender_id asked fresh n legal repeated. same-child host g id secret with sender_id asked fresh n legal repeated
