use Rattle.std.proofs.Common.{◌≡◌, ◌-◌, ℕ, List, length}
use Rattle.ocm_entry.specs.declared.entries.Entry.{Entry}
use Rattle.ocm_rules.specs.Lean.{count}
use Rattle.ocm_logcheck.specs.Replays.{IsLookedUp, IsReplayOf}
use Rattle.ocm_logcheck.proofs.replays.Replay.look_up_place.Given as goal

abbrev pub invariant-loop : goal.invariant-loop
invariant-loop l = record {
  place : l.self.place ≡ l.fn.self.place;
  clock : l.self.moment ≡ l.fn.self.moment;
  looked : (host : List ℕ) (k : List Entry) → IsReplayOf host l.lines l.fn.self k → IsLookedUp host l.lines (count host k) l.self k;
}

abbrev pub decreases-loop : goal.decreases-loop
decreases-loop l = length l.lines - l.self.found
