-- Fields of a request's head (RFC 9110 section 5): their names are in lower case, their values have no blanks
-- around them.
use Rattle.std.specs.Prelude.{ℕ, Bool, List, map, find, bytes_eq, Option, option_map}
use Rattle.std.specs.Char.{to_ascii_lowercase}
use Rattle.ocm_http_heads.specs.declared.fields.Field.{Field}

-- the value of the first field with a name; further ones are passed over
abbrev pub first_value : List ℕ → List Field → Option (List ℕ)
first_value name fields = option_map (λ f. f.value) (find (λ f. bytes_eq f.name name) fields)

-- whether bytes are a word, in any case
abbrev pub is_word : List ℕ → List ℕ → Bool
is_word word bytes = bytes_eq (map to_ascii_lowercase bytes) (map to_ascii_lowercase word)
