use Rattle.std.proofs.Common.{sym}
use Rattle.ocm_serve_store.proofs.serving.ended.Goals as goal

pub returns-clause-counts : goal.returns-clause-counts
returns-clause-counts g c = λ calls own has. (sym has.0, sym has.1)

pub returns-then-matches-clause-counts : goal.returns-then-matches-clause-counts
returns-then-matches-clause-counts g c = λ calls own has. (sym has.0, sym has.1)
