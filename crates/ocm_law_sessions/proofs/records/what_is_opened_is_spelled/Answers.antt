use Rattle.std.specs.Prelude.{[]}
use Rattle.ocm_law_sessions.proofs.Spelling.{goes_on-spelled, opened_from-spelled}
use Rattle.ocm_law_sessions.proofs.records.what_is_opened_is_spelled.Goals as goal

pub returns-clause-opened : goal.returns-clause-opened
returns-clause-opened c = λ host form records k are is. opened_from-spelled host form records [] k tt are is

pub returns-clause-goes_on : goal.returns-clause-goes_on
returns-clause-goes_on c = goes_on-spelled
