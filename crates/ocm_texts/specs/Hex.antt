use Rattle.std.specs.Prelude.{ℕ, ◌+◌, ◌-◌, ◌*◌, ◌/◌, ◌%◌, ◌<◌, List, [], ◌∷◌, nat_lt, nat_le, nat_eq, length, get_or, position, not, if◌then◌else◌, Bool, ◌&&◌, ◌||◌, Option, Some, None}
use Rattle.std.specs.List.{flat_map, list_all}

-- a lower-case hexadecimal digit
abbrev pub hex_digit : ℕ → ℕ
hex_digit n = if nat_lt n 10 then 48 + n else 87 + n

-- two digits for a byte
abbrev pub hex_byte : ℕ → List ℕ
hex_byte b = hex_digit (b / 16) ∷ hex_digit (b % 16) ∷ []

-- two digits for each byte
abbrev pub hex : List ℕ → List ℕ
hex bytes = flat_map hex_byte bytes

-- whether a byte is a lower-case digit
abbrev pub is_hex_byte : ℕ → Bool
is_hex_byte b = (nat_le 48 b && nat_le b 57) || (nat_le 97 b && nat_le b 102)

-- the value of a digit
abbrev pub hex_value : ℕ → ℕ
hex_value b = (if nat_lt b 58 then b - 48 else b - 87) % 16

-- the bytes that the digits spell, two for each
abbrev pub unhex : List ℕ → List ℕ
unhex [] = []
unhex (a ∷ []) = []
unhex (a ∷ b ∷ rest) = (hex_value a * 16 + hex_value b) ∷ unhex rest

-- the bytes that a text spells: none where its length is odd or one of its bytes is no lower-case digit
abbrev pub hex_text_of : List ℕ → Option (List ℕ)
hex_text_of text = if nat_eq (length text % 2) 0 && list_all is_hex_byte text then Some (unhex text) else None

-- the place of the first byte that is no lower-case digit
abbrev pub first_not_hex : List ℕ → Option ℕ
first_not_hex text = position (λ b. not (is_hex_byte b)) text

-- each of them is a byte
abbrev pub AreBytes : List ℕ → Type 0
AreBytes bytes = (i : ℕ) → get_or bytes i 0 < 256
