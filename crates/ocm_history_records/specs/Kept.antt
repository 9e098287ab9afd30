-- What is kept in memory of each entry, and what is written of it when the journal is written anew.
use Rattle.std.specs.Prelude.{ℕ, ◌+◌, ◌<◌, ◌≤◌, List, [], ◌∷◌, ◌++◌, length, min, Bool, true, false, if◌then◌else◌, Option, unwrap_or}
use Rattle.ocm_path.specs.Paths.{Segments, path_text}
use Rattle.ocm_entry.specs.declared.asks.Ask.{Ask}
use Rattle.ocm_entry.specs.declared.asks.Ask.TheVariants as asks
use Rattle.ocm_entry.specs.declared.asks.Method.TheVariants as methods
use Rattle.ocm_entry.specs.declared.entries.Entry.{Entry}
use Rattle.ocm_entry_bytes.specs.Spells.{counted, eight_bytes, spelling, text}
use Rattle.ocm_rules.specs.Shares.{moment}
use Rattle.ocm_rules.specs.History.{kept}
use Rattle.ocm_law_sessions.specs.Sessions.{heard}
use Rattle.ocm_history_records.specs.declared.kept.KeptRecord.{KeptRecord}
use Rattle.ocm_history_records.specs.declared.kept.KeptRecord.TheVariants as kinds

-- what callers see of the records that are kept: the records, the oldest first; how many of them are of no tick; at least
-- how many bytes those of the lean list take that are of no tick; and for how many more there is room
pub record KeptState : Type 0 where
  pub items : List KeptRecord
  pub asks : ℕ
  pub size : ℕ
  pub room : ℕ

-- the spelling of a PUT up to its body
abbrev pub put_front : List ℕ → Segments → List ℕ
put_front secret path = 5 ∷ 1 ∷ text secret ++ text (path_text path)

-- what is kept of an ask that changed something at this moment: of a tick the moment, of a PUT its record in form 2 up to
-- the body, and of each other ask its record in form 2
abbrev pub kept_at : ℕ → Ask → KeptRecord
kept_at clock (asks.Tick next) = kinds.Tick clock
kept_at clock (asks.Dav secret methods.Put path body) = kinds.Put (eight_bytes clock ++ put_front secret path)
kept_at clock ask = kinds.Other (eight_bytes clock ++ spelling ask)

-- what is kept of these kept entries, the oldest first
abbrev pub kept_records : List Entry → List KeptRecord
kept_records [] = []
kept_records (e ∷ before) = kept_records before ++ kept_at (moment (e ∷ before)) e.ask ∷ []

-- whether a record is that of a tick
abbrev pub is_tick_record : KeptRecord → Bool
is_tick_record (kinds.Tick clock) = true
is_tick_record _ = false

-- the record in form 2 of what is kept, where it has this body if it is one of a PUT
abbrev pub whole_text : KeptRecord → List ℕ → List ℕ
whole_text (kinds.Tick clock) body = eight_bytes clock
whole_text (kinds.Put front) body = front ++ counted body
whole_text (kinds.Other bytes) body = bytes

-- the record in form 2 of what is kept, where this body still stands or none
abbrev pub lean_text : KeptRecord → Option (List ℕ) → List ℕ
lean_text kept_record standing = whole_text kept_record (unwrap_or standing [])

-- The records in form 2 of those of these that are of no tick, the oldest first, where these bodies still stand by number.
-- The first has this number.
abbrev pub lean_asks : (ℕ → Option (List ℕ)) → ℕ → List KeptRecord → List (List ℕ)
lean_asks bodies number [] = []
lean_asks bodies number (r ∷ rs) =
    if is_tick_record r then lean_asks bodies (number + 1) rs else lean_text r (bodies number) ∷ lean_asks bodies (number + 1) rs

-- all records in form 2 of these and of one more, the newest, which is written if it is of a tick too
abbrev pub lean_texts : (ℕ → Option (List ℕ)) → List KeptRecord → KeptRecord → List (List ℕ)
lean_texts bodies records newest = lean_asks bodies 1 records ++ lean_text newest (bodies (length records + 1)) ∷ []

-- how many bytes a record takes in an area that is of no tick, and none for a tick, which shows in the moments of what follows it
abbrev pub asked_size : KeptRecord → ℕ → ℕ
asked_size r size = if is_tick_record r then 0 else size

-- a number is at least this one, where it ends at 2^64 - 1
abbrev pub IsBound : ℕ → ℕ → Type 0
IsBound size n = min n 18446744073709551615 ≤ size

-- what is kept of an ask with its answer after a history
abbrev pub kept_of : List ℕ → List Entry → Ask → KeptRecord
kept_of host g ask = kept_at (moment (heard host g ask ∷ kept host g)) ask

-- a journal takes no record of these bytes, unless there are none
abbrev pub IsTooLong : List ℕ → Type 0
IsTooLong bytes = 1 ≤ length bytes → 2097152 < length bytes
