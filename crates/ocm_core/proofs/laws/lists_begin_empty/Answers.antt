use Rattle.std.proofs.Common.{refl}
use Rattle.ocm_core.proofs.laws.lists_begin_empty.Goals as goal

pub returns : goal.returns
returns c = λ host. record { lists = refl; legal = tt }
