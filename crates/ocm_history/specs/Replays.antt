-- How the memory of a server goes on by the records of its journal.
use Rattle.std.specs.Prelude.{◌≡◌, ℕ, List, Bool, true, false, Option, Some, None, nat_le, if◌then◌else◌}
use Rattle.ocm_entry.specs.declared.entries.Entry.{Entry}
use Rattle.ocm_rules.specs.History.{kept}
use Rattle.ocm_rules.specs.Shares.{moment}
use Rattle.ocm_law_sessions.specs.Readings.{with_moment}
use Rattle.ocm_history.specs.declared.histories.History.{History}
use Rattle.ocm_history_records.specs.declared.faults.ReplayFault.{ReplayFault}
use Rattle.ocm_history_records.specs.declared.faults.ReplayFault.TheVariants.{Refused, NoMemory}
use Rattle.ocm_history.specs.Histories.{IsOf, home_of}

-- the memory of a server stands for this list, all of which is kept
pub record IsMemoryOf (history : History) (k : List Entry) : Type 0 where
  pub all_kept : kept (home_of history) k ≡ k
  pub memory : IsOf history k

-- The memory was taken on by a step of the list for which it stood, or this step takes the list nowhere.
pub record GoesOn (old new : History) (step : List Entry → Option (List Entry)) (taken : Bool) : Type 0 where
  pub on : taken ≡ true → (k : List Entry) → IsMemoryOf old k → (next : List Entry) × (step k ≡ Some next) × IsMemoryOf new next
  pub nowhere : taken ≡ false → (k : List Entry) → IsMemoryOf old k → step k ≡ None

-- the kept entries with a tick of this clock where it is above their moment, and none where it is below
abbrev pub with_clock : List ℕ → ℕ → List Entry → Option (List Entry)
with_clock host clock k = if nat_le (moment k) clock then Some (with_moment host clock k) else None

-- why a memory does not go on by records: the first that is refused, or want of memory
abbrev pub IsReplayFault : Option ℕ → ReplayFault → Type 0
IsReplayFault refused (Refused place) = refused ≡ Some place
IsReplayFault refused NoMemory = Unit {0}
