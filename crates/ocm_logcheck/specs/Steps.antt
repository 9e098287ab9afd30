-- How the lists of a server go on by the records of its journal, where ticks are put off until the next ask that is none.
use Rattle.std.specs.Prelude.{◌≡◌, ◌≤◌, ℕ, List, [], ◌∷◌, Bool, true, nat_le, if◌then◌else◌, ◌&&◌, Option, Some, None}
use Rattle.ocm_entry.specs.declared.entries.Entry.{Entry}
use Rattle.ocm_rules.specs.History.{IsAnswered, answer_kept}
use Rattle.ocm_entry.specs.Ticks.{is_tick}
use Rattle.ocm_rules.specs.Shares.{moment}
use Rattle.ocm_rules.specs.State.{State}
use Rattle.ocm_core.specs.Standing.{IsAfter}
use Rattle.ocm_law_sessions.specs.Readings.{with_moment}
use Rattle.ocm_access_log.specs.declared.lines.LogLine.{LogLine}
use Rattle.ocm_access_log.specs.Truth.{has_status}

-- the entries up to the newest that is no tick
abbrev pub up_to_ask : List Entry → List Entry
up_to_ask [] = []
up_to_ask (e ∷ before) = if is_tick e.ask then up_to_ask before else e ∷ before

-- The lists of a server of this host are those of these kept entries, except for the newest ticks: they stand at a moment from
-- that of the newest entry that is no tick up to that of the newest entry.
pub record IsBehind (host : List ℕ) (st : State) (k : List Entry) : Type 0 where
  pub home : st.host ≡ host
  pub answered : IsAnswered host k
  pub lists : IsAfter st (with_moment host st.moment (up_to_ask k))
  pub within : st.moment ≤ moment k

-- whether a line is true after q, where its place is over at this moment
abbrev pub is_true_until : List ℕ → List Entry → ℕ → LogLine → Bool
is_true_until host q end line =
    nat_le (moment q) line.moment && nat_le line.moment end
    && has_status line.status (answer_kept host (with_moment host line.moment q) line.ask)

-- the kept entries with a tick of this clock where it is above their moment, and none where it is below
abbrev pub with_clock : List ℕ → ℕ → List Entry → Option (List Entry)
with_clock host clock k = if nat_le (moment k) clock then Some (with_moment host clock k) else None
