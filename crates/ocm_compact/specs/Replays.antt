-- How the lists of a server go on by the records of its journal.
use Rattle.std.specs.Prelude.{◌≡◌, ℕ, List, Bool, true, false, Option, Some, None, Result, Ok, Err, nat_le, if◌then◌else◌, IsTrue}
use Rattle.ocm_entry.specs.declared.entries.Entry.{Entry}
use Rattle.ocm_entry_bytes.specs.Spells.{has_spelling}
use Rattle.ocm_journal_records.specs.declared.stamps.Stamped.{Stamped}
use Rattle.ocm_journal_records.specs.declared.stamps.Stamped.TheVariants as stamps
use Rattle.ocm_rules.specs.History.{kept}
use Rattle.ocm_rules.specs.Shares.{moment}
use Rattle.ocm_core.specs.Standing.{IsAfter}
use Rattle.ocm_law_alike.specs.Others.{others}
use Rattle.ocm_journal_image.specs.Layout.{contents}
use Rattle.ocm_journal_image.specs.declared.readings.Records.{Records}
use Rattle.ocm_law_sessions.specs.Readings.{opened_from, refused_from, with_moment}
use Rattle.ocm_compact.specs.Texts.{AllFit, dated_texts}
use Rattle.ocm_compact.specs.declared.replays.Replay.{Replay}

-- the host of a server
abbrev pub home_of : Replay → List ℕ
home_of replay = replay.core.state.host

-- The lists of a replay are those of this list, all of which is kept, and it has the records of its asks that are neither
-- ticks nor for files.
pub record IsReplayOf (replay : Replay) (k : List Entry) : Type 0 where
  pub all_kept : kept (home_of replay) k ≡ k
  pub lists : IsAfter replay.core.state k
  pub texts : replay.others ≡ dated_texts (others k)
  pub fit : AllFit (others k)

-- The replay was taken on by a step of the list at which it stood, or this step takes the list nowhere.
pub record GoesOn (old new : Replay) (step : List Entry → Option (List Entry)) (taken : Bool) : Type 0 where
  pub on : taken ≡ true → (k : List Entry) → IsReplayOf old k → (next : List Entry) × (step k ≡ Some next) × IsReplayOf new next
  pub nowhere : taken ≡ false → (k : List Entry) → IsReplayOf old k → step k ≡ None

-- the kept entries with a tick of this clock where it is above their moment, and none where it is below
abbrev pub with_clock : List ℕ → ℕ → List Entry → Option (List Entry)
with_clock host clock k = if nat_le (moment k) clock then Some (with_moment host clock k) else None

-- the ask of what a record says has a spelling, where it says one
abbrev pub HasSpelledAsk : Stamped → Type 0
HasSpelledAsk (stamps.Bare ask) = IsTrue (has_spelling ask)
HasSpelledAsk (stamps.Moment clock) = Unit {0}
HasSpelledAsk (stamps.Timed clock ask) = IsTrue (has_spelling ask)

-- the list to which framed records open that go on from this one; none where they are not framed
abbrev pub opened_by : List ℕ → ℕ → List Entry → Result Records ℕ → Option (List Entry)
opened_by host form k (Ok read) = opened_from host form k (contents read.items)
opened_by host form k (Err place) = None

-- the place of the first of framed records by which a list does not go on, or that where they are not framed
abbrev pub refused_by : List ℕ → ℕ → List Entry → Result Records ℕ → Result (Option ℕ) ℕ
refused_by host form k (Ok read) = Ok (refused_from host form k read.items)
refused_by host form k (Err place) = Err place
