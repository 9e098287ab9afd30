-- The words of a line, what a word of each kind is read as, and how the words of a line follow one another.
use Rattle.std.specs.Prelude.{ℕ, ◌+◌, List, [], ◌∷◌, length, take, drop, nat_eq, nat_lt, nat_le, ◌&&◌, Bool, true, false, Option, Some, None, is_none, position, find, bytes_eq, codes, option_map, option_and_then, if◌then◌else◌}
use Rattle.std.specs.Str.{is_utf8}
use Rattle.ocm_texts.specs.Decimal.{decimal_of}
use Rattle.ocm_texts.specs.Hex.{hex_text_of}
use Rattle.ocm_limits.specs.Limits.{most_servers}
use Rattle.ocm_types.specs.Texts as texts
use Rattle.ocm_types.specs.Draws.{fresh_of}
use Rattle.ocm_types.specs.Rights.{perms_of}
use Rattle.ocm_types.specs.Hosts.{canonical_host_of}
use Rattle.ocm_types.specs.Addresses.{canonical_address_of}
use Rattle.ocm_types.specs.declared.addresses.Address.{Address}
use Rattle.ocm_types.specs.declared.rights.Rights.{Rights}
use Rattle.ocm_path.specs.Paths.{path_given}
use Rattle.ocm_disk.specs.declared.crashes.Crash.{Crash}
use Rattle.ocm_disk.specs.declared.crashes.Crash.TheVariants.{Old, New, Torn}
use Rattle.ocm_script.specs.declared.events.Event.{Event}

-- one reading after another, as long as each gives something
infixl 10 ◌>>=◌
abbrev pub ◌>>=◌ : {A B : Type 0} → Option A → (A → Option B) → Option B
o >>= f = option_and_then f o

-- the value, where a test holds
abbrev pub when : {A : Type 0} → Bool → A → Option A
when b x = if b then Some x else None

-- whether a byte is a space
abbrev pub is_space : ℕ → Bool
is_space b = nat_eq b 32

-- what stands before a place, and what follows it; all, and nothing, where there is no such place
abbrev pub cut_at : List ℕ → Option ℕ → List ℕ × Option (List ℕ)
cut_at line None = (line, None)
cut_at line (Some i) = (take i line, Some (drop (i + 1) line))

-- the word before the first space, and what follows that space, where there is one
abbrev pub cut : List ℕ → List ℕ × Option (List ℕ)
cut line = cut_at line (position is_space line)

-- the next word of what follows a space, where there was one
abbrev pub word : Option (List ℕ) → Option (List ℕ × Option (List ℕ))
word rest = option_map cut rest

-- the end of a line: no space, and so no word, follows
abbrev pub ended : Option (List ℕ) → Option (Unit {0})
ended None = Some tt
ended (Some rest) = None

-- what follows a front, where bytes begin so
unfoldable pub after : List ℕ → List ℕ → Option (List ℕ)
after front bytes = if bytes_eq (take (length front) bytes) front then Some (drop (length front) bytes) else None

-- a word that is UTF-8
abbrev pub text_of : List ℕ → Option (List ℕ)
text_of word = when (is_utf8 word) word

-- a user's name
unfoldable pub name_word : List ℕ → Option (List ℕ)
name_word word = do
  text ← text_of word
  texts.name_of text

-- a secret
unfoldable pub secret_word : List ℕ → Option (List ℕ)
secret_word word = do
  text ← text_of word
  texts.secret_of text

-- 32 lower-case hexadecimal digits
unfoldable pub fresh_word : List ℕ → Option (List ℕ)
fresh_word word = do
  text ← text_of word
  fresh_of text

-- a host in its canonical text
unfoldable pub host_word : List ℕ → Option (List ℕ)
host_word word = do
  text ← text_of word
  canonical_host_of text

-- the address whose canonical text this is
unfoldable pub address_in : List ℕ → Option Address
address_in text = canonical_address_of text

-- an address in its canonical text
unfoldable pub address_word : List ℕ → Option Address
address_word word = do
  text ← text_of word
  address_in text

-- one to three permissions
unfoldable pub perms_word : List ℕ → Option Rights
perms_word word = do
  text ← text_of word
  perms_of text

-- permissions, or `-` for none
unfoldable pub perms_if_word : List ℕ → Option (Option Rights)
perms_if_word word = if bytes_eq word (codes "-") then Some None else option_map Some (perms_word word)

-- a decimal of at most that number
unfoldable pub number_word : ℕ → List ℕ → Option ℕ
number_word most word = do
  text ← text_of word
  number ← decimal_of text
  when (nat_le number most) number

-- two lower-case hexadecimal digits for each byte
unfoldable pub digits_word : List ℕ → Option (List ℕ)
digits_word word = do
  text ← text_of word
  hex_text_of text

-- whether what stands at the target is replaced: `overwrite`, or `keep`
unfoldable pub overwrite_word : List ℕ → Option Bool
overwrite_word word =
    if bytes_eq word (codes "overwrite") then Some true
    else (if bytes_eq word (codes "keep") then Some false else None)

-- what a crash leaves: `old`, `new` or `torn`
unfoldable pub crash_word : List ℕ → Option Crash
crash_word word =
    if bytes_eq word (codes "old") then Some Old
    else (if bytes_eq word (codes "new") then Some New
    else (if bytes_eq word (codes "torn") then Some Torn else None))

-- whether a text begins with `/`
abbrev pub begins_with_slash : List ℕ → Bool
begins_with_slash [] = false
begins_with_slash (b ∷ bs) = nat_eq b 47

-- a path as it stands in a URL, which begins with `/`
unfoldable pub path_word : List ℕ → Option (List (List ℕ))
path_word word = do
  text ← text_of word
  _ ← when (begins_with_slash text) text
  path_given text

-- the host among these that the word names
abbrev pub known : List (List ℕ) → List ℕ → Option (List ℕ)
known named word = find (λ host. bytes_eq host word) named

-- a host in its canonical text that is not named before, as long as there may be more servers
unfoldable pub new_host : List (List ℕ) → List ℕ → Option (List ℕ)
new_host named word = do
  host ← host_word word
  when (nat_lt (length named) most_servers && is_none (known named host)) host

-- the greatest number of a line
abbrev pub most_number : ℕ
most_number = 4294967295

-- the next word, as one of a kind, and what follows it
unfoldable pub next : {A : Type 0} → (List ℕ → Option A) → Option (List ℕ) → Option (A × Option (List ℕ))
next kind rest = do
  w ← word rest
  x ← kind w.0
  Some (x, w.1)

-- a word of a kind, and what is read behind it
infixr 20 ◌▸◌
abbrev pub ◌▸◌ : {A : Type 0} → (List ℕ → Option A) → (A → Option (List ℕ) → Option Event) → Option (List ℕ) → Option Event
kind ▸ on = λ rest. next kind rest >>= λ x. on x.0 x.1

-- the event of a line that ends here
abbrev pub ends : Event → Option (List ℕ) → Option Event
ends event rest = ended rest >>= λ _. Some event

-- the event by what remains of a line behind a space, which may be any bytes
abbrev pub remaining : (List ℕ → Option Event) → Option (List ℕ) → Option Event
remaining read rest = rest >>= read
