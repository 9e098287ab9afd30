-- The text of a host, how it is read, and its one canonical form.
use Rattle.std.specs.Prelude.{◌≡◌, ◌≢◌, ℕ, ◌-◌, ◌<◌, IsTrue, decimal, List, [], ◌∷◌, ◌++◌, length, map, take, drop, codes, Option, Some, None, Result, Ok, Err, Bool, true, false, ◌&&◌, ◌||◌, not, nat_eq, nat_le, nat_lt, unwrap_or, if◌then◌else◌}
use Rattle.std.specs.Option.{option_or}
use Rattle.std.specs.List.{list_all, starts_with, ends_with}
use Rattle.std.specs.Char.{to_ascii_lowercase, is_ascii_digit}
use Rattle.std.specs.Str.{bytes_eq}
use Rattle.std.specs.Str.Parse.{digits_value}
use Rattle.ocm_types.specs.Texts.{has_length}
use Rattle.ocm_types.specs.declared.address_faults.AddressFault.{AddressFault}
use Rattle.ocm_types.specs.declared.address_faults.AddressFault.TheVariants as faults

-- one reading after another, up to the first fault
infixl 10 ◌>>=◌
abbrev pub ◌>>=◌ : {A B : Type 0} → Result A AddressFault → (A → Result B AddressFault) → Result B AddressFault
(Ok x) >>= f = f x
(Err e) >>= f = Err e

-- a fault is the one that reading gives; want of memory may come at any text
abbrev pub Fails : {Y : Type 0} → AddressFault → Result Y AddressFault → Type 0
Fails faults.NoMemory read = Unit {0}
Fails e read = read ≡ Err e

-- what a function returned, seen by view, is what reading gives, unless memory ran out
abbrev pub Gives : {X Y : Type 0} → (X → Y) → Result X AddressFault → Result Y AddressFault → Type 0
Gives view (Ok x) read = read ≡ Ok (view x)
Gives view (Err e) read = Fails e read

-- what follows that front, where the text begins so
abbrev pub after_front : List ℕ → List ℕ → Option (List ℕ)
after_front front text = if starts_with nat_eq text front then Some (drop (length front) text) else None

-- the text without that end, where it ends so
abbrev pub without_end : List ℕ → List ℕ → List ℕ
without_end end text = if ends_with nat_eq text end then take (length text - length end) text else text

-- the text without one `http://` or `https://` at its beginning
abbrev pub without_scheme : List ℕ → List ℕ
without_scheme text = unwrap_or (option_or (after_front (codes "http://") text) (after_front (codes "https://") text)) text

-- the text without the scheme, and then without one `/` at its end
abbrev pub bare : List ℕ → List ℕ
bare text = without_end (codes "/") (without_scheme text)

-- the byte `:`
abbrev pub colon : ℕ
colon = 58

-- what stands before the first separator, and what stands after it where there is one
abbrev pub cut_at_first : ℕ → List ℕ → List ℕ × Option (List ℕ)
cut_at_first separator [] = ([], None)
cut_at_first separator (b ∷ bytes) =
    if nat_eq b separator then ([], Some bytes) else (b ∷ (cut_at_first separator bytes).0, (cut_at_first separator bytes).1)

-- a lower-case ASCII letter, a digit, `-` or `.`
abbrev pub is_host_byte : ℕ → Bool
is_host_byte b = (nat_le 97 b && nat_le b 122) || (nat_le 48 b && nat_le b 57) || nat_eq b 45 || nat_eq b 46

-- such a byte, or an upper-case letter
abbrev pub is_written_byte : ℕ → Bool
is_written_byte b = is_host_byte b || (nat_le 65 b && nat_le b 90)

-- the host's name in lower case, or its fault
abbrev pub host_name_of : List ℕ → Result (List ℕ) AddressFault
host_name_of name =
    if has_length 1 240 name
    then (if list_all is_written_byte name then Ok (map to_ascii_lowercase name) else Err faults.HostChar)
    else Err faults.HostLength

-- digits begin with one, and not with `0`
abbrev pub begins_above_zero : List ℕ → Bool
begins_above_zero [] = false
begins_above_zero (d ∷ digits) = not (nat_eq d 48)

-- a decimal from 1 to 65,535 without a leading zero
abbrev pub is_port : List ℕ → Bool
is_port digits = list_all is_ascii_digit digits && begins_above_zero digits && nat_lt (digits_value 10 digits) 65536

-- the port 80, which is not written
abbrev pub is_default_port : List ℕ → Bool
is_default_port digits = bytes_eq digits (codes "80")

-- the digits of the port where one is kept, or the fault
abbrev pub port_of : Option (List ℕ) → Result (Option (List ℕ)) AddressFault
port_of None = Ok None
port_of (Some digits) = if is_port digits then Ok (if is_default_port digits then None else Some digits) else Err faults.Port

-- the name, and the port behind a `:` where one is kept
abbrev pub host_text : List ℕ → Option (List ℕ) → List ℕ
host_text name None = name
host_text name (Some digits) = name ++ colon ∷ digits

-- what a host's text is read as: its canonical text, or the first fault
abbrev pub host_of : List ℕ → Result (List ℕ) AddressFault
host_of text = do
  name ← host_name_of (cut_at_first colon (bare text)).0
  port ← port_of (cut_at_first colon (bare text)).1
  Ok (host_text name port)

-- a host's name in canonical form: 1 to 240 lower-case letters, digits, `-` and `.`
abbrev pub is_host_name : List ℕ → Bool
is_host_name name = has_length 1 240 name && list_all is_host_byte name

-- no port, or one other than 80
abbrev pub is_kept_port : Option (List ℕ) → Bool
is_kept_port None = true
is_kept_port (Some digits) = is_port digits && not (is_default_port digits)

-- a canonical host: a name, or a name, `:` and a port other than 80
abbrev pub is_host : List ℕ → Bool
is_host text = is_host_name (cut_at_first colon text).0 && is_kept_port (cut_at_first colon text).1

-- a name, `:` and the decimal of a port other than 80
pub record HasPort (text : List ℕ) : Type 0 where
  pub name : List ℕ
  pub port : ℕ
  pub is_name : IsTrue (is_host_name name)
  pub above_zero : 0 < port
  pub below : port < 65536
  pub not_default : port ≢ 80
  pub spelled : text ≡ name ++ colon ∷ decimal port

-- the text, where it reads as itself
abbrev pub read_as : List ℕ → Result (List ℕ) AddressFault → Option (List ℕ)
read_as text (Ok host) = if bytes_eq host text then Some host else None
read_as text (Err e) = None

-- the host whose canonical text this is
abbrev pub canonical_host_of : List ℕ → Option (List ℕ)
canonical_host_of text = read_as text (host_of text)
