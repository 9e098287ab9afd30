-- The text of an address: a user's name, `@` and a host.
use Rattle.std.specs.Prelude.{ℕ, List, [], ◌∷◌, ◌++◌, Option, Some, None, Result, Ok, Err, nat_eq, if◌then◌else◌}
use Rattle.std.specs.Str.{bytes_eq}
use Rattle.ocm_types.specs.Texts.{has_length, is_name}
use Rattle.ocm_types.specs.Hosts.{◌>>=◌, host_of}
use Rattle.ocm_types.specs.declared.address_faults.AddressFault.{AddressFault}
use Rattle.ocm_types.specs.declared.address_faults.AddressFault.TheVariants as faults
use Rattle.ocm_types.specs.declared.addresses.Address.{Address}

-- the byte `@`
abbrev pub at_sign : ℕ
at_sign = 64

-- the parts with one more byte in front, which is the separator where none stands behind it
abbrev pub with_byte : ℕ → ℕ → List ℕ → Option (List ℕ × List ℕ) → Option (List ℕ × List ℕ)
with_byte separator b bytes (Some parts) = Some (b ∷ parts.0, parts.1)
with_byte separator b bytes None = if nat_eq b separator then Some ([], bytes) else None

-- what stands before the last separator and what stands after it, where there is one
abbrev pub cut_at_last : ℕ → List ℕ → Option (List ℕ × List ℕ)
cut_at_last separator [] = None
cut_at_last separator (b ∷ bytes) = with_byte separator b bytes (cut_at_last separator bytes)

-- the parts, or the fault that there are none
abbrev pub found : Option (List ℕ × List ℕ) → Result (List ℕ × List ℕ) AddressFault
found (Some parts) = Ok parts
found None = Err faults.NoAt

-- what stands before the last `@` and what stands after it
abbrev pub parts_of : List ℕ → Result (List ℕ × List ℕ) AddressFault
parts_of text = found (cut_at_last at_sign text)

-- the user's name, or its fault
abbrev pub user_of : List ℕ → Result (List ℕ) AddressFault
user_of name = if has_length 1 64 name then (if is_name name then Ok name else Err faults.UserChar) else Err faults.UserLength

-- what an address's text is read as, or the first fault
abbrev pub address_of : List ℕ → Result Address AddressFault
address_of text = do
  parts ← parts_of text
  user ← user_of parts.0
  host ← host_of parts.1
  Ok (record { user = user; host = host })

-- the one text of an address
abbrev pub address_text : Address → List ℕ
address_text address = address.user ++ at_sign ∷ address.host

-- the address, where the text is its own
abbrev pub spelled_as : List ℕ → Result Address AddressFault → Option Address
spelled_as text (Ok address) = if bytes_eq (address_text address) text then Some address else None
spelled_as text (Err e) = None

-- the address whose own text this is
abbrev pub canonical_address_of : List ℕ → Option Address
canonical_address_of text = spelled_as text (address_of text)
