-- Percent-encoding of a segment (RFC 3986 sections 2.1 and 2.3).
use Rattle.std.specs.Prelude.{ℕ, Bool, true, false, not, ◌&&◌, ◌||◌, ◌==◌, List, [], ◌∷◌, if◌then◌else◌}
use Rattle.std.specs.List.{flat_map}
use Rattle.std.specs.Char.{is_ascii_alphanumeric, is_ascii_hexdigit}
use Rattle.percent_encoding.specs.Percent.{percent_encode_byte}

-- whether a byte stands for itself: an ASCII letter or digit, `-`, `.`, `_` or `~` (RFC 3986 section 2.3)
abbrev pub is_unreserved : ℕ → Bool
is_unreserved b = is_ascii_alphanumeric b || b == 45 || b == 46 || b == 95 || b == 126

-- a byte as it is escaped: itself, or `%` and two upper-case hexadecimal digits (RFC 3986 section 2.1)
abbrev pub escape_byte : ℕ → List ℕ
escape_byte b = if is_unreserved b then b ∷ [] else percent_encode_byte b

-- bytes as they are escaped
abbrev pub escape : List ℕ → List ℕ
escape bytes = flat_map escape_byte bytes

-- whether two hexadecimal digits come first
abbrev pub begins_with_digits : List ℕ → Bool
begins_with_digits [] = false
begins_with_digits (high ∷ []) = false
begins_with_digits (high ∷ low ∷ rest) = is_ascii_hexdigit high && is_ascii_hexdigit low

-- whether two hexadecimal digits come after each `%`
abbrev pub are_escapes : List ℕ → Bool
are_escapes [] = true
are_escapes (b ∷ rest) = (not (b == 37) || begins_with_digits rest) && are_escapes rest
