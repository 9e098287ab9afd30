use Rattle.ocm_rules.specs.History.{kept}
use Rattle.ocm_law_logs.proofs.Bare.{read-alike}
use Rattle.ocm_law_logs.proofs.reads_have_a_status.Goals as goal

pub returns : goal.returns
returns c = λ host g ask is. (let both = read-alike host (kept host g) ask is in (both.0, both.2))
