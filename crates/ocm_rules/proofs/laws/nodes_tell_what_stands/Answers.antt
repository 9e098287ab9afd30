use Rattle.ocm_rules.proofs.States.{stands-rows}
use Rattle.ocm_rules.proofs.laws.nodes_tell_what_stands.Goals as goal

pub returns : goal.returns
returns c = λ host g place. stands-rows host g place
