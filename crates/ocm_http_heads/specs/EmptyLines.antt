-- Where a head ends, in the rule's own words: with its first empty line (RFC 9112 sections 2.1 and 2.2).
use Rattle.std.specs.Prelude.{◌≡◌, ◌↔◌, ℕ, suc, Bool, ◌<◌, ◌≤◌, List, [], ◌∷◌, ◌++◌, length, take, drop}
use Rattle.std.specs.List.{list_all}
use Rattle.ocm_limits.specs.Limits.{most_head_bytes, most_head_lines}
use Rattle.ocm_http_heads.specs.Endings.{blanks, is_blank, found, lines, of_head, of_trailers}
use Rattle.ocm_http_heads.specs.declared.endings.Found.TheVariants.{Whole, TooLong, Unfinished}

-- bytes that end with an empty line: LF, an optional CR, LF
pub data EndsEmpty (bytes : List ℕ) : Type 0 where
  bare : (front : List ℕ) → bytes ≡ front ++ 10 ∷ 10 ∷ [] → EndsEmpty bytes
  returned : (front : List ℕ) → bytes ≡ front ++ 10 ∷ 13 ∷ 10 ∷ [] → EndsEmpty bytes

-- of texts, one for each number up to a last one, the first that ends with an empty line is the one for n
pub record IsFirst (text : ℕ → List ℕ) (last n : ℕ) : Type 0 where
  pub within : n ≤ last
  pub is_empty : EndsEmpty (text n)
  pub none_before : (k : ℕ) → k < n → EndsEmpty (text k) → ⊥

-- none of these texts ends with an empty line
abbrev pub AreOpen : (ℕ → List ℕ) → ℕ → Type 0
AreOpen text last = (k : ℕ) → k ≤ last → EndsEmpty (text k) → ⊥

-- the first bytes, without the CR and LF at the front
abbrev pub behind_blanks : List ℕ → ℕ → List ℕ
behind_blanks bytes k = drop (blanks bytes) (take k bytes)

-- the first bytes, where a line ended before them
abbrev pub at_line : List ℕ → ℕ → List ℕ
at_line bytes k = 10 ∷ take k bytes

-- the byte behind the first n is the first that passes a limit of so many bytes and lines
pub record IsPassed (size count : ℕ) (bytes : List ℕ) (n : ℕ) : Type 0 where
  pub inside : n < length bytes
  pub within : (n ≤ size) × (lines (take n bytes) ≤ count)
  pub past : (suc n ≤ size) × (lines (take (suc n) bytes) ≤ count) → ⊥

-- a head ends with the first empty line behind the CR and LF that come first, where it has at most 16,384 bytes and 66
-- lines with these and that; there is no end yet where there is no such line and no limit is passed; else it is too long,
-- by the first byte that passes a limit before there is such a line
pub record HeadsEnd : Type 0 where
  pub whole : (bytes : List ℕ) (n : ℕ) → (found of_head bytes ≡ Whole n)
      ↔ (IsFirst (behind_blanks bytes) (length bytes) n × (n ≤ most_head_bytes) × (lines (take n bytes) ≤ most_head_lines))
  pub unfinished : (bytes : List ℕ) → (found of_head bytes ≡ Unfinished)
      ↔ (AreOpen (behind_blanks bytes) (length bytes) × (length bytes ≤ most_head_bytes) × (lines bytes ≤ most_head_lines))
  pub too_long : (bytes : List ℕ) (blank : Bool) → found of_head bytes ≡ TooLong blank
      → (n : ℕ) × IsPassed most_head_bytes most_head_lines bytes n × AreOpen (behind_blanks bytes) n × (blank ≡ list_all is_blank (take (suc n) bytes))

-- the same of trailers, which begin at a line and have at most 8,192 bytes
pub record TrailersEnd : Type 0 where
  pub whole : (bytes : List ℕ) (n : ℕ) → (found of_trailers bytes ≡ Whole n)
      ↔ (IsFirst (at_line bytes) (length bytes) n × (n ≤ 8192))
  pub unfinished : (bytes : List ℕ) → (found of_trailers bytes ≡ Unfinished)
      ↔ (AreOpen (at_line bytes) (length bytes) × (length bytes ≤ 8192))
