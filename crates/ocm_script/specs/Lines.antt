-- Bytes as lines.
use Rattle.std.specs.Prelude.{ℕ, List, [], ◌∷◌, Bool, nat_eq, if◌then◌else◌}

-- whether a byte is a line feed
abbrev pub is_line_feed : ℕ → Bool
is_line_feed b = nat_eq b 10

-- lines with one more byte in front, which is no line feed
abbrev pub onto : ℕ → List (List ℕ) → List (List ℕ)
onto b [] = (b ∷ []) ∷ []
onto b (line ∷ lines) = (b ∷ line) ∷ lines

-- the lines without their line feeds; the last line may lack it, and behind the last line feed no line begins
abbrev pub lines_of : List ℕ → List (List ℕ)
lines_of [] = []
lines_of (b ∷ bs) = if is_line_feed b then [] ∷ lines_of bs else onto b (lines_of bs)
