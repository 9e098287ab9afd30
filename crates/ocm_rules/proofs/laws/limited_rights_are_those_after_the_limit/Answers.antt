use Rattle.ocm_rules.proofs.Endings.{limit-leaves}
use Rattle.ocm_rules.proofs.laws.limited_rights_are_those_after_the_limit.Goals as goal

pub returns : goal.returns
returns c = limit-leaves
