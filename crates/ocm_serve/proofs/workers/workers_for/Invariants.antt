use Rattle.std.proofs.Common.{◌≡◌, None, vec_len}
use Rattle.std.specs.Prelude.{All}
use Rattle.ocm_serve.proofs.workers.workers_for.Given as goal

-- the workers so far
abbrev pub invariant-loop-number : goal.invariant-loop-number
invariant-loop-number g l = (vec_len l.workers ≡ l.number) × All (λ w. w.pass ≡ None) l.workers.items
