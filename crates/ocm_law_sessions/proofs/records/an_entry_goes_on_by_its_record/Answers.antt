use Rattle.ocm_law_sessions.proofs.Rereading.{entry-goes_on}
use Rattle.ocm_law_sessions.proofs.records.an_entry_goes_on_by_its_record.Goals as goal

pub returns : goal.returns
returns c = entry-goes_on
