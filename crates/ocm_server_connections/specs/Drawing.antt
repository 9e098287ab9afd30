-- Drawn values.
use Rattle.std.specs.Prelude.{◌≡◌, ℕ, List, [], ◌∷◌, ◌++◌}
use Rattle.std.specs.Int.{w32, to_le_bytes}
use Rattle.rand_chacha.specs.ChaCha.{ChaCha, next_word}

abbrev pub after_word : ChaCha → ChaCha
after_word g = (next_word 10 g).1

abbrev pub word_bytes : ChaCha → List ℕ
word_bytes g = to_le_bytes w32 (next_word 10 g).0

-- the next value of a stream: four words, each with its lowest byte first
unfoldable pub value_of : ChaCha → List ℕ
value_of g = word_bytes g ++ word_bytes (after_word g) ++ word_bytes (after_word (after_word g)) ++ word_bytes (after_word (after_word (after_word g)))

-- the stream behind it
unfoldable pub moved : ChaCha → ChaCha
moved g = after_word (after_word (after_word (after_word g)))

-- these values were drawn, the first of them first
abbrev pub Draws : ChaCha → List (List ℕ) → ChaCha → Type 0
Draws old [] new = new ≡ old
Draws old (fresh ∷ others) new = (fresh ≡ value_of old) × Draws (moved old) others new
