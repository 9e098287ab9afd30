use Rattle.std.specs.Prelude.{ℕ, ◌+◌, ◌%◌, ◌^◌, ◌&&◌, if◌then◌else◌, List, Option, Some, None}
use Rattle.std.specs.List.{list_all}
use Rattle.std.specs.Int.{w128, from_be_bytes, to_be_bytes}
use Rattle.ocm_texts.specs.Hex.{is_hex_byte, unhex}
use Rattle.ocm_types.specs.Texts.{has_length}

-- the 16 bytes that exactly 32 lower-case hexadecimal digits spell
abbrev pub fresh_of : List ℕ → Option (List ℕ)
fresh_of digits = if has_length 32 32 digits && list_all is_hex_byte digits then Some (unhex digits) else None

-- the big-endian number of 16 bytes
abbrev pub number_of : List ℕ → ℕ
number_of bytes = from_be_bytes w128 bytes

-- the 16 bytes of that number plus k, modulo 2^128
abbrev pub fresh_plus : List ℕ → ℕ → List ℕ
fresh_plus bytes k = to_be_bytes w128 ((number_of bytes + k) % 2 ^ 128)
