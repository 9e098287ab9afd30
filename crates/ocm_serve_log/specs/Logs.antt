-- The log of a server: what is written of its reads. Histories stand newest first, and lines oldest first.
use Rattle.std.specs.Prelude.{◌≡◌, ◌⊎◌, ℕ, ◌<◌, ◌-◌, ◌^◌, min, List, [], ◌∷◌, ◌++◌, length, Bool, true, false, if◌then◌else◌, Option, None, IfOk, IfSome, Result}
use Rattle.std.specs.List.{AllByRecursion}
use Rattle.std.specs.Option.{option_map_or}
use Rattle.ocm_entry.specs.declared.asks.Ask.{Ask}
use Rattle.ocm_entry.specs.declared.asks.Ask.TheVariants.{Dav}
use Rattle.ocm_entry.specs.declared.entries.Entry.{Entry}
use Rattle.ocm_entry.specs.declared.replies.Reply.{Reply}
use Rattle.ocm_access_log.specs.Lines.{is_reading}
use Rattle.ocm_access_log.specs.Truth.{status_of}
use Rattle.ocm_access_log.specs.Written.{IsLoggable, written_ask, written_log}
use Rattle.ocm_access_log.specs.declared.lines.LogLine.{LogLine}
use Rattle.ocm_law_logs.specs.Logged.{line_after}
use Rattle.ocm_serve_log.specs.declared.logs.Log.{Log}

-- ---- the lines

-- whether an ask reads files: a GET, a HEAD or a listing
abbrev pub reads : Ask → Bool
reads (Dav secret method path body) = is_reading method
reads _ = false

-- the line of an entry after a history, where its ask reads files and its reply is one of the rules
abbrev pub line_of : List ℕ → List Entry → Entry → List LogLine
line_of host g e = if reads e.ask then option_map_or (λ status. line_after host g e.ask status ∷ []) (status_of e.reply) [] else []

-- the lines of the calls h after the list k
abbrev pub lines_since : List ℕ → List Entry → List Entry → List LogLine
lines_since host k [] = []
lines_since host k (e ∷ before) = lines_since host k before ++ line_of host (before ++ k) e

-- the line of an ask that was answered at a place and a moment with this status, where it reads files and has one
abbrev pub line_with : ℕ → ℕ → Ask → Option ℕ → List LogLine
line_with place moment ask status = if reads ask then option_map_or (λ status. record { place = place; moment = moment; ask = ask; status = status } ∷ []) status [] else []

-- the line of an ask that was answered with this reply
abbrev pub line_at : ℕ → ℕ → Ask → Reply → List LogLine
line_at place moment ask reply = line_with place moment ask (status_of reply)

-- ---- what is written of them

-- a count that is kept as a u64: it ends at 2^64 - 1, and stands there
abbrev pub capped : ℕ → ℕ
capped count = min count (2 ^ 64 - 1)

-- bytes are a front of others
abbrev pub IsFront : List ℕ → List ℕ → Type 0
IsFront front bytes = (rest : List ℕ) × (front ++ rest ≡ bytes)

-- What a sink has taken of the log of these lines. The first of them are put whole. The others are left out and counted: of their bytes a front
-- may have been taken, by a write that failed, and lines that stand whole in it count too. None is left out where the sink has had no fault and there was memory for each line; where there was none for one, some are.
-- Nothing is said of the bytes of a sink that does not tell them.
pub record IsLog (taken : Option (List ℕ)) (faults left_out : ℕ) (out_of_memory : Bool) (lines : List LogLine) : Type 0 where
  pub put : List LogLine
  pub lost : List LogLine
  pub all : put ++ lost ≡ lines
  pub counted : left_out ≡ capped (length lost)
  pub cut : List ℕ
  pub took : IfSome taken (λ bytes. bytes ≡ written_log put ++ cut)
  pub within : IsFront cut (written_log lost)
  pub cause : faults ≡ 0 → out_of_memory ≡ false → left_out ≡ 0
  pub short : out_of_memory ≡ true → 0 < left_out

-- it is the log of the calls h after the list k, and each of its lines is one that can be written and is read back
abbrev pub IsLogOf : Option (List ℕ) → ℕ → ℕ → Bool → List ℕ → List Entry → List Entry → Type 0
IsLogOf taken faults left_out out_of_memory host k h = IsLog taken faults left_out out_of_memory (lines_since host k h) × AllByRecursion IsLoggable (lines_since host k h)

-- ---- lines that are gathered

-- What a sink has taken, and what is gathered for it: some lines behind those that are put and before those that are left out. None is
-- gathered behind one that was cut.
pub record Gathers (taken : Option (List ℕ)) (faults : ℕ) (gathered : List ℕ) (waiting left_out : ℕ) (out_of_memory : Bool) (lines : List LogLine) : Type 0 where
  pub put : List LogLine
  pub held : List LogLine
  pub lost : List LogLine
  pub all : put ++ (held ++ lost) ≡ lines
  pub gathers : gathered ≡ written_log held
  pub waits : waiting ≡ capped (length held)
  pub counted : left_out ≡ capped (length lost)
  pub cut : List ℕ
  pub took : IfSome taken (λ bytes. bytes ≡ written_log put ++ cut)
  pub within : IsFront cut (written_log lost)
  pub clean : (held ≡ []) ⊎ (cut ≡ [])
  pub cause : faults ≡ 0 → out_of_memory ≡ false → left_out ≡ 0
  pub short : out_of_memory ≡ true → 0 < left_out

-- a log holds these lines, by what its sink tells of itself
abbrev pub Holds : {K : Type 0} → (K → Option (List ℕ)) → (K → ℕ) → Log K → List LogLine → Type 0
Holds taken faults log lines = Gathers (taken log.sink) (faults log.sink) log.gathered.items log.waiting log.left_out log.out_of_memory lines

-- whatever lines a log held before, it holds them and these behind them
abbrev pub Takes : {K : Type 0} → (K → Option (List ℕ)) → (K → ℕ) → Log K → Log K → List LogLine → Type 0
Takes taken faults before after more = (lines : List LogLine) → Holds taken faults before lines → Holds taken faults after (lines ++ more)

-- whatever lines a log held before, it holds them
abbrev pub Keeps : {K : Type 0} → (K → Option (List ℕ)) → (K → ℕ) → Log K → Log K → Type 0
Keeps taken faults before after = (lines : List LogLine) → Holds taken faults before lines → Holds taken faults after lines

-- what is written of an ask that reads files, at a place and a moment and with the status 200, or nothing where there was no memory for it
abbrev pub IsMadeOf : {E : Type 0} → ℕ → ℕ → Ask → Result (List ℕ) E → Type 0
IsMadeOf place moment ask made = (reads ask ≡ true) × IfOk made (λ text. text ≡ written_ask place moment 200 ask)

-- there is such a text exactly where an ask reads files
abbrev pub IsTextOf : {E : Type 0} → ℕ → ℕ → Ask → Option (Result (List ℕ) E) → Type 0
IsTextOf place moment ask read = (read ≡ None → reads ask ≡ false) × IfSome read (λ made. IsMadeOf place moment ask made)
