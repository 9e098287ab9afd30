use Rattle.ocm_law_lean.proofs.Answered.{lean-goes_on}
use Rattle.ocm_law_sessions.proofs.Appending.{change-opens, record-same}
use Rattle.ocm_law_sessions.proofs.sessions.a_change_is_read_back.Goals as goal

pub returns-clause-opens : goal.returns-clause-opens
returns-clause-opens c = change-opens

pub returns-clause-lean : goal.returns-clause-lean
returns-clause-lean c = λ host k g e same. lean-goes_on host e k g same

pub returns-clause-same : goal.returns-clause-same
returns-clause-same c = record-same
