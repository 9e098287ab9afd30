use Rattle.std.proofs.Common.{◌≡◌, length}
use Rattle.ocm_schedule.specs.Lanes.{roused, places_of}
use Rattle.ocm_schedule.proofs.lanes.Lane.rouse.Given as goal

abbrev pub invariant-loop-self : goal.invariant-loop-self
invariant-loop-self l = (roused l.now l.self ≡ roused l.now l.initial.self) × (length (places_of l.self) ≡ length (places_of l.initial.self))

abbrev pub decreases-loop-self : goal.decreases-loop-self
decreases-loop-self l = length l.self.resting
