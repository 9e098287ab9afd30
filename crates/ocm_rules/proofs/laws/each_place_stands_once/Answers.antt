use Rattle.ocm_rules.proofs.Once.{once-nodes}
use Rattle.ocm_rules.proofs.laws.each_place_stands_once.Goals as goal

pub returns : goal.returns
returns c = once-nodes
