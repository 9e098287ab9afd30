use Rattle.std.proofs.Common.{◌≡◌, ℕ, ◌<◌, get_or}
use Rattle.ocm_server.specs.declared.workers.Rounds.TheVariants.{Ended}
use Rattle.ocm_serve_store.proofs.serving.ended.Given as goal

-- none of the workers so far had a fault of its door
abbrev pub invariant-loop-k : goal.invariant-loop-k
invariant-loop-k g l = (i : ℕ) (d : _) → i < l.k → (get_or l.workers i d).end ≡ Ended
