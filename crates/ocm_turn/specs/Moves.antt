-- What a caller's pass goes through over several calls.
use Rattle.std.specs.Prelude.{◌≡◌, ℕ, ◌<◌, ◌≤◌, ◌⊎◌, List, [], ◌∷◌, ◌++◌, length}
use Rattle.ocm_entry.specs.declared.entries.Entry.{Entry}
use Rattle.ocm_turn.specs.declared.view.Call.{Call}
use Rattle.ocm_turn.specs.Calls.{IsOlderPart, entries}
use Rattle.ocm_turn.specs.Passes.{Known, SameGround}

-- a pass's own calls grew by these, the newest first
abbrev pub Grows : {Terms : Type 0} → Known Terms → Known Terms → List Entry → Type 0
Grows old new calls = (own : List Call) × (new.mine ≡ own ++ old.mine) × (entries own ≡ calls)

-- Of the calls that a pass made itself, the newest stands in front of what is seen then, at its place, and what was seen before stands behind it; without one nothing more is seen.
abbrev pub SeesNewest : List Entry → List Call → List Entry → Type 0
SeesNewest old [] new = new ≡ old
SeesNewest old (newest ∷ own) new = (before : List Entry) × (new ≡ newest.entry ∷ before) × (newest.place ≡ length before) × IsOlderPart old before

-- a pass made these calls, the newest first: it has seen the history of the same turnstile up to the newest of them, which is no shorter than before, and no fewer moments; where it had a moment behind each entry, it has
pub record Moved {Terms : Type 0} (old new : Known Terms) (calls : List Entry) : Type 0 where
  pub ground : SameGround old new
  pub seen : IsOlderPart old.seen new.seen
  pub moments : IsOlderPart old.moments new.moments
  pub paired : length old.moments ≡ length old.seen → length new.moments ≡ length new.seen
  pub mine : Grows old new calls
  pub newest : SeesNewest old.seen mine.0 new.seen
  pub drawn : old.drawn ≤ new.drawn
  pub parts : new.parts ≡ old.parts

-- none of these calls was refused: none was made, or the number of calls that was found last is below the limit
abbrev pub Unspent : {Terms : Type 0} → ℕ → Known Terms → Known Terms → List Entry → Type 0
Unspent limit old new calls = ((calls ≡ []) × (new.drawn ≡ old.drawn)) ⊎ (new.drawn < limit)
