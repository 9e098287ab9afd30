-- The lines of an access log: how a line is written, and how a log is read.
use Rattle.std.specs.Prelude.{ℕ, ◌+◌, ◌*◌, ◌-◌, List, [], ◌∷◌, ◌++◌, nat_eq, nat_le, bytes_eq, codes, Bool, true, false, ◌&&◌, if◌then◌else◌, Option, Some, None, option_and_then, Result, Ok, Err}
use Rattle.std.specs.Fmt.{decimal}
use Rattle.std.specs.List.{slice_split}
use Rattle.std.specs.Str.{is_utf8}
use Rattle.percent_encoding.specs.Percent.{percent_decode}
use Rattle.ocm_texts.specs.Decimal.{decimal_of, is_digit_byte}
use Rattle.ocm_types.specs.Texts.{secret_of}
use Rattle.ocm_path.specs.Escapes.{escape}
use Rattle.ocm_path.specs.Paths.{Segments, path_escaped, path_given}
use Rattle.ocm_entry.specs.declared.asks.Method.{Method}
use Rattle.ocm_entry.specs.declared.asks.Method.TheVariants.{Get, Head, List0, List1}
use Rattle.ocm_entry.specs.declared.asks.Ask.TheVariants.{Dav}
use Rattle.ocm_access_log.specs.declared.lines.LogLine.{LogLine}

-- ---- how a line is written

-- whether a method reads
abbrev pub is_reading : Method → Bool
is_reading Get = true
is_reading Head = true
is_reading List0 = true
is_reading List1 = true
is_reading _ = false

-- the word of a method that reads; no other method stands in a log
abbrev pub method_text : Method → List ℕ
method_text Get = codes "get"
method_text Head = codes "head"
method_text List0 = codes "list0"
method_text List1 = codes "list1"
method_text _ = []

-- the line of a read: the place and the moment at which it was answered, its method, its secret and path, escaped, and
-- the three digits of its status; a log has a line feed behind each line
abbrev pub line_text : ℕ → ℕ → Method → List ℕ → Segments → List ℕ → List ℕ
line_text place moment method secret path digits =
    decimal place ++ 32 ∷ decimal moment ++ 32 ∷ method_text method ++ 32 ∷ escape secret ++ 32 ∷ path_escaped path ++ 32 ∷ digits

-- the line of a read with this status, with its line feed
abbrev pub log_line : ℕ → ℕ → Method → List ℕ → Segments → ℕ → List ℕ
log_line place moment method secret path status = line_text place moment method secret path (decimal status) ++ 10 ∷ []

-- ---- how a line is read

-- one reading after another, as long as each gives something
infixl 10 ◌>>=◌
abbrev pub ◌>>=◌ : {A B : Type 0} → Option A → (A → Option B) → Option B
o >>= f = option_and_then f o

-- the value, where a test holds
abbrev pub when : {A : Type 0} → Bool → A → Option A
when b x = if b then Some x else None

-- a word that is UTF-8
abbrev pub text_of : List ℕ → Option (List ℕ)
text_of word = when (is_utf8 word) word

-- a decimal below 2^64, with no leading zero
unfoldable pub number_word : List ℕ → Option ℕ
number_word word = do
  text ← text_of word
  decimal_of text

-- the method of a read
unfoldable pub method_word : List ℕ → Option Method
method_word word =
    if bytes_eq word (codes "get") then Some Get
    else if bytes_eq word (codes "head") then Some Head
    else if bytes_eq word (codes "list0") then Some List0
    else if bytes_eq word (codes "list1") then Some List1
    else None

-- a secret, escaped and in no other spelling
unfoldable pub secret_word : List ℕ → Option (List ℕ)
secret_word word = do
  text ← text_of (percent_decode word)
  secret ← secret_of text
  when (bytes_eq (escape secret) word) secret

-- a path, escaped and in no other spelling
unfoldable pub path_word : List ℕ → Option Segments
path_word word = do
  text ← text_of word
  path ← path_given text
  when (bytes_eq (path_escaped path) word) path

-- three digits
unfoldable pub status_word : List ℕ → Option ℕ
status_word (a ∷ b ∷ c ∷ []) =
    when (is_digit_byte a && (is_digit_byte b && is_digit_byte c)) (100 * (a - 48) + 10 * (b - 48) + (c - 48))
status_word _ = None

-- whether a byte is a space
abbrev pub is_space : ℕ → Bool
is_space b = nat_eq b 32

-- the line of six words
unfoldable pub line_in : List (List ℕ) → Option LogLine
line_in (place_text ∷ moment_text ∷ method_name ∷ secret_text ∷ path_text ∷ status_text ∷ []) = do
  place ← number_word place_text
  moment ← number_word moment_text
  method ← method_word method_name
  secret ← secret_word secret_text
  path ← path_word path_text
  status ← status_word status_text
  Some (record { place = place; moment = moment; ask = Dav secret method path []; status = status })
line_in _ = None

-- the line that bytes spell, its line feed aside: six words, with one space between each two
unfoldable pub line_of : List ℕ → Option LogLine
line_of bytes = line_in (slice_split is_space bytes)

-- ---- how a log is read

-- neither the place nor the moment of a line is below that of the line before
abbrev pub is_behind : ℕ → ℕ → LogLine → Bool
is_behind place moment line = nat_le place line.place && nat_le moment line.moment

-- a line of a log where the line before had this place and moment
abbrev pub line_behind : ℕ → ℕ → List ℕ → Option LogLine
line_behind place moment bytes = do
  line ← line_of bytes
  when (is_behind place moment line) line

-- a line before others that were read
abbrev pub put_first : LogLine → Result (List LogLine) ℕ → Result (List LogLine) ℕ
put_first line (Ok lines) = Ok (line ∷ lines)
put_first line (Err number) = Err number

-- The lines of a log from the line of this number on, or the number of the first that is bad. `begun` is what was passed
-- of that line, and the line before had this place and moment. A last line without its line feed is bad.
abbrev pub lines_from : ℕ → ℕ → ℕ → List ℕ → List ℕ → Result (List LogLine) ℕ
lines_from number place moment [] [] = Ok []
lines_from number place moment (b ∷ begun) [] = Err number
lines_from number place moment begun (b ∷ bytes) =
    if nat_eq b 10
    then elim (line_behind place moment begun) [
      | None ↦ Err number
      | Some line ↦ put_first line (lines_from (number + 1) line.place line.moment [] bytes)
    ]
    else lines_from number place moment (begun ++ b ∷ []) bytes

-- the lines of a log, or the number of the first that is bad, counted from 1
abbrev pub log_of : List ℕ → Result (List LogLine) ℕ
log_of bytes = lines_from 1 0 0 [] bytes
