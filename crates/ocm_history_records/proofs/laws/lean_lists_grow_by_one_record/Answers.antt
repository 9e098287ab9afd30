use Rattle.ocm_history_records.proofs.Growing.{size-grows}
use Rattle.ocm_history_records.proofs.laws.lean_lists_grow_by_one_record.Goals as goal

pub returns : goal.returns
returns c = size-grows
