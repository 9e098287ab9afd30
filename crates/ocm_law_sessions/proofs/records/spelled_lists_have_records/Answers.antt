use Rattle.ocm_law_sessions.proofs.Spelling.{moment-below, lean-spelled}
use Rattle.ocm_law_sessions.proofs.Sizes.{record-length, records-lengths}
use Rattle.ocm_law_sessions.proofs.records.spelled_lists_have_records.Goals as goal

pub returns-clause-one : goal.returns-clause-one
returns-clause-one c = λ form k e fits. record-length form k e fits.0

pub returns-clause-all : goal.returns-clause-all
returns-clause-all c = records-lengths

pub returns-clause-moment : goal.returns-clause-moment
returns-clause-moment c = moment-below

pub returns-clause-lean : goal.returns-clause-lean
returns-clause-lean c = lean-spelled
