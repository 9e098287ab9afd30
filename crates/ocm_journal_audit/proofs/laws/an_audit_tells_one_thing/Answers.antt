use Rattle.ocm_journal_audit.proofs.Telling.{one_told}
use Rattle.ocm_journal_audit.proofs.laws.an_audit_tells_one_thing.Goals as goal

pub returns : goal.returns
returns c = one_told
