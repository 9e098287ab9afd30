use Rattle.std.proofs.Common.{◌≡◌, ℕ, ◌+◌, ◌<◌, ◌≤◌, get_or, None, drop, map}
use Rattle.ocm_turn.specs.Passes.{BelongsTo, SameGround}
use Rattle.ocm_server.specs.Objects.{drawn_of, gathered, mine_of, past_of, Knows}
use Rattle.ocm_server.proofs.Dealing.{ChangedBelow}
use Rattle.ocm_server.proofs.passes.gather.Given as goal

-- the passes of the workers so far are gathered
abbrev pub invariant-loop-k : goal.invariant-loop-k
invariant-loop-k g l = record {
  own : BelongsTo l.node l.pass;
  ground : SameGround l.initial.pass l.pass;
  taken : ChangedBelow (λ i w. record w { pass = None }) l.initial.workers l.workers l.k;
  mine : gathered l.pass.mine (map (λ w. mine_of w.pass) (drop l.k l.initial.workers)) ≡ gathered l.initial.pass.mine (map (λ w. mine_of w.pass) l.initial.workers);
  parts : l.pass.parts ≡ l.initial.pass.parts + l.k;
  drawn : (i : ℕ) (d : _) → i < l.k → drawn_of (get_or l.initial.workers i d).pass ≤ l.pass.drawn;
  knows : (i : ℕ) (d : _) → i < l.k → Knows (get_or l.initial.workers i d).pass (past_of l.pass);
}
