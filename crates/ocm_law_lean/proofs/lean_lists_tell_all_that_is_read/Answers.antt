use Rattle.ocm_rules.specs.History.{kept}
use Rattle.ocm_law_lean.proofs.Origins.{leaned-view}
use Rattle.ocm_law_lean.proofs.lean_lists_tell_all_that_is_read.Goals as goal

pub returns : goal.returns
returns c = λ host g. leaned-view host (kept host g)
