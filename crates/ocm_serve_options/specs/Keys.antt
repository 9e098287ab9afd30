-- The administrator's key, as a file holds it.
use Rattle.std.specs.Prelude.{◌≡◌, ℕ, ◌-◌, ◌==◌, nat_le, List, length, take, slice_index, Option, Some, None, Result, Ok, Err, if◌then◌else◌}
use Rattle.std.specs.Str.{is_utf8}
use Rattle.ocm_types.specs.Texts.{secret_of}
use Rattle.ocm_serve_options.specs.declared.keys.KeyFault.{KeyFault}
use Rattle.ocm_serve_options.specs.declared.keys.KeyFault.TheVariants.{ReadFault, NoKey, NoMemory}

-- the last of these bytes
abbrev pub last_byte : List ℕ → ℕ
last_byte bytes = slice_index bytes (length bytes - 1)

-- a line without a CR at its end
abbrev pub without_return : List ℕ → List ℕ
without_return line = if last_byte line == 13 then take (length line - 1) line else line

-- the bytes less one line end at their end, LF or CR LF
abbrev pub without_line_end : List ℕ → List ℕ
without_line_end bytes = if last_byte bytes == 10 then without_return (take (length bytes - 1) bytes) else bytes

-- the key that a text is
abbrev pub key_of : List ℕ → Option (List ℕ)
key_of text = if is_utf8 text then secret_of text else None

-- the most bytes of a file that holds a key
abbrev pub most_key_bytes : ℕ
most_key_bytes = 4096

-- the key that a file with these bytes holds
abbrev pub key_in : List ℕ → Option (List ℕ)
key_in bytes = if nat_le (length bytes) most_key_bytes then key_of (without_line_end bytes) else None

-- what reading gave: a key, or none exactly at NoKey; want of memory and a fault of the source are free
abbrev pub Gives : Result (List ℕ) KeyFault → Option (List ℕ) → Type 0
Gives (Ok key) given = given ≡ Some key
Gives (Err NoKey) given = given ≡ None
Gives (Err ReadFault) given = Unit {0}
Gives (Err NoMemory) given = Unit {0}
