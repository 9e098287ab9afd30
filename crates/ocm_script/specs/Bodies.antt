-- What a script's line writes for the bytes of a file.
use Rattle.std.specs.Prelude.{ℕ, ◌+◌, ◌-◌, ◌*◌, List, [], ◌∷◌, nat_le, ◌&&◌, Option, Some, None, if◌then◌else◌, codes}
use Rattle.ocm_script.specs.Words.{◌>>=◌, after, digits_word, number_word}
use Rattle.ocm_script.specs.declared.events.Body.{Body}
use Rattle.ocm_script.specs.declared.events.Body.TheVariants.{Given, Fill}

-- the most bytes that a line fills a file with
abbrev pub most_fill : ℕ
most_fill = 2000000

-- the value of a lower-case hexadecimal digit
abbrev pub digit_value : ℕ → Option ℕ
digit_value digit =
    if nat_le 48 digit && nat_le digit 57 then Some (digit - 48)
    else (if nat_le 97 digit && nat_le digit 102 then Some (digit - 87) else None)

-- hex:<digits>, behind the `:`: two lower-case hexadecimal digits for each byte
unfoldable pub hex_body : List ℕ → Option Body
hex_body digits = do
  bytes ← digits_word digits
  Some (Given bytes)

-- fill:<two digits>:<count>, behind the first `:`: so many times the byte of two digits
unfoldable pub fill_body : List ℕ → Option Body
fill_body [] = None
fill_body (high ∷ []) = None
fill_body (high ∷ low ∷ rest) = do
  h ← digit_value high
  l ← digit_value low
  digits ← after (codes ":") rest
  count ← number_word most_fill digits
  Some (Fill (h * 16 + l) count)

-- the body that the rest of a line writes, by what follows each of the three fronts
abbrev pub body_by : Option (List ℕ) → Option (List ℕ) → Option (List ℕ) → Option Body
body_by (Some text) digits filled = Some (Given text)
body_by None (Some digits) filled = hex_body digits
body_by None None (Some filled) = fill_body filled
body_by None None None = None

-- text:J, hex:<digits> or fill:<two digits>:<count>
unfoldable pub body_of : List ℕ → Option Body
body_of rest = body_by (after (codes "text:") rest) (after (codes "hex:") rest) (after (codes "fill:") rest)
