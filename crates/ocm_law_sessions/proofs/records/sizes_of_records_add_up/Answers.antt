use Rattle.ocm_law_sessions.proofs.Sizes.{asks-size, records-size}
use Rattle.ocm_law_sessions.proofs.records.sizes_of_records_add_up.Goals as goal

pub returns-clause-asks : goal.returns-clause-asks
returns-clause-asks c = asks-size

pub returns-clause-all : goal.returns-clause-all
returns-clause-all c = records-size
