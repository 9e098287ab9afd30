-- What the records of a journal say, and which of them may follow one another.
use Rattle.std.specs.Prelude.{ℕ, Bool, true, false, ◌==◌, nat_le, nat_lt, List, [], ◌∷◌, length, take, drop, codes, if◌then◌else◌, Option, Some, None, option_and_then, option_map}
use Rattle.std.specs.Int.{w64, from_be_bytes}
use Rattle.std.specs.Result.{result_ok}
use Rattle.ocm_entry.specs.Ticks.{is_tick}
use Rattle.ocm_entry.specs.declared.asks.Ask.{Ask}
use Rattle.ocm_entry.specs.declared.asks.Ask.TheVariants as asks
use Rattle.ocm_entry_bytes.specs.Reading.{ask_of}
use Rattle.ocm_journal_image.specs.declared.readings.RawRecord.{RawRecord}
use Rattle.ocm_journal_records.specs.declared.stamps.Stamped.{Stamped}
use Rattle.ocm_journal_records.specs.declared.stamps.Stamped.TheVariants as stamps

-- the ask that bytes spell, where they spell one
unfoldable pub spelled : List ℕ → Option Ask
spelled bytes = result_ok (ask_of bytes)

-- an ask behind a moment, which is no Tick: the moment alone says that one
abbrev pub timed : ℕ → Ask → Option Stamped
timed moment ask = if is_tick ask then None else Some (stamps.Timed moment ask)

-- the moment that a record of form 2 begins with: eight bytes, big-endian
unfoldable pub moment_in : List ℕ → ℕ
moment_in bytes = from_be_bytes w64 (take 8 bytes)

-- what a record of form 2 says: a moment, and the ask behind it where there is one
unfoldable pub said_in_second : List ℕ → Option Stamped
said_in_second bytes =
    if nat_lt (length bytes) 8 then None
    else if length bytes == 8 then Some (stamps.Moment (moment_in bytes))
    else option_and_then (timed (moment_in bytes)) (spelled (drop 8 bytes))

-- what a record says in an area of this form; nothing where it is no record of that form
unfoldable pub stamped_of : ℕ → List ℕ → Option Stamped
stamped_of form bytes = if form == 1 then option_map stamps.Bare (spelled bytes) else said_in_second bytes

-- The moment so far behind a record, where the record may stand at this moment so far. A moment alone is above it, and
-- a moment with an ask is not below it.
unfoldable pub moment_behind : ℕ → Stamped → Option ℕ
moment_behind moment (stamps.Bare ask) = Some moment
moment_behind moment (stamps.Moment next) = if nat_lt moment next then Some next else None
moment_behind moment (stamps.Timed next ask) = if nat_le moment next then Some next else None

-- the moment so far behind a record of an area of this form, where it may stand at this moment so far
unfoldable pub moment_past : ℕ → ℕ → List ℕ → Option ℕ
moment_past form moment bytes = option_and_then (moment_behind moment) (stamped_of form bytes)

-- the place of the gate of the first record that says nothing, or whose moment may not stand at the moment so far
abbrev pub refused_from : ℕ → ℕ → List RawRecord → Option ℕ
refused_from form moment [] = None
refused_from form moment (r ∷ rs) = elim (moment_past form moment r.bytes) [
  | None ↦ Some r.place
  | Some past ↦ refused_from form past rs
]

-- the kind of an ask; what is due stands in no record
unfoldable pub kind_of_ask : Ask → List ℕ
kind_of_ask (asks.AddUser name fresh) = codes "user"
kind_of_ask (asks.Local key cmd) = codes "local"
kind_of_ask (asks.Offer offer) = codes "offer"
kind_of_ask (asks.Notice notice fresh) = codes "notice"
kind_of_ask (asks.Dav secret method path body) = codes "dav"
kind_of_ask asks.Due = codes "due"
kind_of_ask (asks.Settle number status id) = codes "settle"
kind_of_ask (asks.Tick clock) = codes "tick"
kind_of_ask (asks.Carry secret from to moving overwrite) = codes "carry"

-- the kind of a record: that of its ask, and `tick` for a moment alone
unfoldable pub kind_of : Stamped → List ℕ
kind_of (stamps.Bare ask) = kind_of_ask ask
kind_of (stamps.Moment moment) = codes "tick"
kind_of (stamps.Timed moment ask) = kind_of_ask ask
