use Rattle.std.proofs.Common.{refl}
use Rattle.ocm_rules.proofs.Kept.{kept-kept}
use Rattle.ocm_rules.proofs.laws.kept_entries_decide_the_reply.Goals as goal

pub returns : goal.returns
returns c = λ host g ask. rw (kept-kept host g) refl
