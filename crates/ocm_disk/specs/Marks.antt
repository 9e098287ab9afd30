-- Which bytes were written since the last sync: one bit for each, eight to a word, the lowest bit first.
use Rattle.std.specs.Prelude.{◌≡◌, ◌==◌, ◌/◌, ◌%◌, ◌≤◌, ◌<◌, suc, ℕ, List, [], ◌∷◌, length, take, drop, slice_index, if◌then◌else◌}
use Rattle.std.specs.Int.{bit_at}

-- 1 where the byte at this place is marked, and otherwise 0
abbrev pub mark_at : List ℕ → ℕ → ℕ
mark_at words place = bit_at (slice_index words (place / 8)) (place % 8)

-- these bytes, which begin at a place, with `ee` in each that is marked
abbrev pub ruined_from : List ℕ → ℕ → List ℕ → List ℕ
ruined_from words place [] = []
ruined_from words place (byte ∷ bytes) = (if mark_at words place == 1 then 238 else byte) ∷ ruined_from words (suc place) bytes

-- these bytes with `ee` in each that is marked
abbrev pub ruined : List ℕ → List ℕ → List ℕ
ruined words bytes = ruined_from words 0 bytes

-- All that differs from the last sync, and all that is marked, lies from one place up to another, and the bytes
-- and those of the last sync are within a limit.
pub record IsTracked (seen synced words : List ℕ) (from to limit : ℕ) : Type 0 where
  pub front : take from seen ≡ take from synced
  pub back : drop to seen ≡ drop to synced
  pub inside : from ≤ length seen
  pub before : (place : ℕ) → place < from → mark_at words place ≡ 0
  pub behind : (place : ℕ) → to ≤ place → mark_at words place ≡ 0
  pub seen_fits : length seen ≤ limit
  pub synced_fits : length synced ≤ limit
  pub span_fits : to ≤ limit
