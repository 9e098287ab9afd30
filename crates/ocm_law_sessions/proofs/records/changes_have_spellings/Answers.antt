use Rattle.ocm_rules.specs.History.{kept}
use Rattle.ocm_rules.specs.Messages.{view_of}
use Rattle.ocm_law_sessions.proofs.Keeping.{changes-spelled}
use Rattle.ocm_law_sessions.proofs.records.changes_have_spellings.Goals as goal

pub returns : goal.returns
returns c = λ host g ask proper changing. changes-spelled (view_of host (kept host g)) ask proper changing
