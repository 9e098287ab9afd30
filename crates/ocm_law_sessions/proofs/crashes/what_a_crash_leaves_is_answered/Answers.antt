use Rattle.ocm_rules.proofs.Kept.{kept-answered}
use Rattle.ocm_law_sessions.proofs.crashes.what_a_crash_leaves_is_answered.Goals as goal

pub returns : goal.returns
returns c = λ host k h flight next comes. kept-answered host next comes.0
