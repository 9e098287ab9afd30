use Rattle.std.specs.Prelude.{ℕ, ◌+◌, ◌-◌, ◌*◌, ◌^◌, List, [], ◌∷◌, length, get_or, nat_lt, nat_le, nat_eq, not, if◌then◌else◌, Bool, ◌&&◌, ◌||◌, Option, Some, None}
use Rattle.std.specs.List.{list_all}

-- whether a byte is a decimal digit
abbrev pub is_digit_byte : ℕ → Bool
is_digit_byte b = nat_le 48 b && nat_le b 57

-- the number that digits write when they follow those of `n`
abbrev pub number_after : ℕ → List ℕ → ℕ
number_after n [] = n
number_after n (c ∷ cs) = number_after (10 * n + (c - 48)) cs

-- whether a text is 1 to 20 digits, with no leading zero but in `0` itself
abbrev pub is_decimal_text : List ℕ → Bool
is_decimal_text text = list_all is_digit_byte text && (nat_lt 0 (length text) && (nat_le (length text) 20 && (nat_lt (length text) 2 || not (nat_eq (get_or text 0 0) 48))))

-- the number that a text writes: none where it is no such text, or its number is 2^64 or more
abbrev pub decimal_of : List ℕ → Option ℕ
decimal_of text = if is_decimal_text text && nat_lt (number_after 0 text) (2 ^ 64) then Some (number_after 0 text) else None
