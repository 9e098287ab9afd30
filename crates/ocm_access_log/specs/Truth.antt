-- Which lines of a log are true of a list of kept entries. Lists stand newest first, so a prefix of a list is its older part.
use Rattle.std.specs.Prelude.{ℕ, ◌+◌, List, [], ◌∷◌, nat_eq, nat_le, Bool, false, ◌&&◌, if◌then◌else◌, Option, Some, None, unwrap_or}
use Rattle.std.specs.Option.{option_or, option_map_or}
use Rattle.ocm_entry.specs.declared.entries.Entry.{Entry}
use Rattle.ocm_entry.specs.declared.replies.Reply.{Reply}
use Rattle.ocm_entry.specs.declared.replies.Reply.TheVariants.{File, Items, Refused}
use Rattle.ocm_entry.specs.Refusals as refusals
use Rattle.ocm_rules.specs.History.{answer_kept}
use Rattle.ocm_rules.specs.Lean.{count}
use Rattle.ocm_rules.specs.Shares.{moment}
use Rattle.ocm_law_sessions.specs.Readings.{with_moment}
use Rattle.ocm_access_log.specs.declared.lines.LogLine.{LogLine}

-- the prefix, where it has so many entries that are no tick
abbrev pub if_counts : List ℕ → ℕ → List Entry → Option (List Entry)
if_counts host place k = if nat_eq (count host k) place then Some k else None

-- the shortest prefix of a list with so many entries that are no tick
abbrev pub prefix_at : List ℕ → ℕ → List Entry → Option (List Entry)
prefix_at host place [] = if_counts host place []
prefix_at host place (e ∷ before) = option_or (prefix_at host place before) (if_counts host place (e ∷ before))

-- the list up to where the place is over: the shortest prefix with one entry more that is no tick, else the whole list
abbrev pub end_of : List ℕ → ℕ → List Entry → List Entry
end_of host place k = unwrap_or (prefix_at host (place + 1) k) k

-- the status that the reply to a read has
abbrev pub status_of : Reply → Option ℕ
status_of (File body) = Some 200
status_of (Items items) = Some 207
status_of (Refused why) = Some (refusals.status_of why)
status_of _ = None

-- whether a read is answered with this status
abbrev pub has_status : ℕ → Reply → Bool
has_status status reply = option_map_or (nat_eq status) (status_of reply) false

-- Whether a line is true after q, the shortest prefix with its place, where that place is over at q2: its moment lies
-- between those of the two, and its status is that of the answer after q and a tick at its moment.
abbrev pub is_true_after : List ℕ → List Entry → List Entry → LogLine → Bool
is_true_after host q q2 line =
    nat_le (moment q) line.moment && nat_le line.moment (moment q2)
    && has_status line.status (answer_kept host (with_moment host line.moment q) line.ask)

-- whether a line is true of a list
abbrev pub is_true : List ℕ → List Entry → LogLine → Bool
is_true host k line = option_map_or (λ q. is_true_after host q (end_of host line.place k) line) (prefix_at host line.place k) false

-- the number of the first line that is false, where the first of these has this number
abbrev pub first_false : List ℕ → List Entry → ℕ → List LogLine → Option ℕ
first_false host k number [] = None
first_false host k number (line ∷ lines) = if is_true host k line then first_false host k (number + 1) lines else Some number
