-- What a replay of an image's records finds of the lines of a log.
use Rattle.std.specs.Prelude.{◌≡◌, ◌≤◌, ℕ, ◌+◌, List, [], ◌∷◌, ◌++◌, drop, max, nat_eq, nat_lt, Bool, true, false, if◌then◌else◌, ◌⊎◌, Option, Some, None, Result, Ok, Err}
use Rattle.ocm_entry.specs.declared.entries.Entry.{Entry}
use Rattle.ocm_journal_image.specs.Layout.{contents}
use Rattle.ocm_journal_image.specs.declared.readings.RawRecord.{RawRecord}
use Rattle.ocm_rules.specs.History.{IsAnswered}
use Rattle.ocm_rules.specs.Lean.{count}
use Rattle.ocm_entry.specs.Ticks.{is_tick}
use Rattle.ocm_rules.specs.Shares.{moment}
use Rattle.ocm_law_sessions.specs.Readings.{opened, refused_at}
use Rattle.ocm_access_log.specs.declared.lines.LogLine.{LogLine}
use Rattle.ocm_access_log.specs.Truth.{is_true}
use Rattle.ocm_access_log.specs.Reads.{AreLoggedFrom}
use Rattle.ocm_logcheck.specs.declared.replays.Replay.{Replay}
use Rattle.ocm_logcheck.specs.declared.faults.LogFault.{LogFault}
use Rattle.ocm_logcheck.specs.declared.faults.LogFault.TheVariants.{NotJournal, False, NoMemory}
use Rattle.ocm_logcheck.specs.Steps.{IsBehind, up_to_ask}

-- how many lines are true before the first that is false
abbrev pub count_true : List ℕ → List Entry → List LogLine → ℕ
count_true host k [] = 0
count_true host k (line ∷ lines) = if is_true host k line then 1 + count_true host k lines else 0

-- what is told of so many true lines before the first that is false
abbrev pub number_told : ℕ → ℕ → Result ℕ LogFault
number_told found lines = if nat_lt found lines then Err (False (found + 1)) else Ok lines

-- ---- which lists come of one

-- a list with further entries or none
abbrev pub Extends : List Entry → List Entry → Type 0
Extends k end = (later : List Entry) × (end ≡ later ++ k)

-- a list, or one that goes on from it by an ask that is no tick: so the newest place of the list is over with it
abbrev pub IsOver : List ℕ → List Entry → List Entry → Type 0
IsOver host k end =
    (end ≡ k) ⊎ ((e : Entry) × (is_tick e.ask ≡ false) × IsAnswered host (e ∷ k) × Extends (e ∷ k) end)

-- ---- where a replay stands

-- the lines that are still to be looked up
abbrev pub lines_left : Replay → List LogLine → List LogLine
lines_left replay lines = if replay.stopped then [] else drop replay.found lines

-- the next of these lines, where it has this place
abbrev pub next_at : ℕ → List LogLine → Option LogLine
next_at place [] = None
next_at place (line ∷ lines) = if nat_eq line.place place then Some line else None

-- A replay stands at these kept entries. The lines that it looked up are true of all lists that may come of them, up to the
-- first that is false, and those that are left have a place from this one on.
pub record StandsAt (host : List ℕ) (lines : List LogLine) (Ends : List Entry → Type 0) (place : ℕ) (replay : Replay) (k : List Entry) : Type 0 where
  pub lists : IsBehind host replay.core.state k
  pub clock : replay.moment ≡ moment k
  pub asks : replay.place ≡ count host k
  pub counts : (end : List Entry) → Ends end → count_true host end lines ≡ replay.found + count_true host end (lines_left replay lines)
  -- the last line that was looked up had a moment of at most this
  pub last : ℕ
  pub order : AreLoggedFrom place last (lines_left replay lines)
  pub since : replay.core.state.moment ≤ max last (moment (up_to_ask k))

-- a replay stands at these kept entries between two records
abbrev pub IsReplayOf : List ℕ → List LogLine → Replay → List Entry → Type 0
IsReplayOf host lines replay k = StandsAt host lines (Extends k) (count host k) replay k

-- the lines are looked up that may have the newest place of these kept entries, where this place is over, from this place on
abbrev pub IsLookedUp : List ℕ → List LogLine → ℕ → Replay → List Entry → Type 0
IsLookedUp host lines place replay k = StandsAt host lines (IsOver host k) place replay k

-- The replay went on by a step of the list at which it stood, or this step takes the list nowhere.
pub record GoesOn (host : List ℕ) (lines : List LogLine) (old new : Replay) (step : List Entry → Option (List Entry)) (taken : Bool) : Type 0 where
  pub on : taken ≡ true → (k : List Entry) → IsReplayOf host lines old k → (next : List Entry) × (step k ≡ Some next) × IsReplayOf host lines new next
  pub nowhere : taken ≡ false → (k : List Entry) → IsReplayOf host lines old k → step k ≡ None

-- what a replay of these records answered: how many lines are true of the list to which they open, or the first record that
-- is refused
abbrev pub GivesCount : List ℕ → ℕ → List RawRecord → List LogLine → Result ℕ LogFault → Type 0
GivesCount host form records lines (Ok found) =
    (k : List Entry) × (opened host form (contents records) ≡ Some k) × (found ≡ count_true host k lines)
GivesCount host form records lines (Err (NotJournal place)) = refused_at host form records ≡ Some place
GivesCount host form records lines (Err NoMemory) = Unit {0}
GivesCount host form records lines (Err _) = ⊥
