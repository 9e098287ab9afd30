use Rattle.ocm_rules.proofs.Kept.{kept-kept}
use Rattle.ocm_rules.proofs.laws.kept_stays_kept.Goals as goal

pub returns : goal.returns
returns c = λ host g. kept-kept host g
