use Rattle.ocm_history.proofs.Leaning.{asks-kept, texts-lean}
use Rattle.ocm_history.proofs.laws.what_is_kept_makes_the_lean_records.Goals as goal

pub returns-clause-asks : goal.returns-clause-asks
returns-clause-asks c = asks-kept

pub returns-clause-all : goal.returns-clause-all
returns-clause-all c = texts-lean
