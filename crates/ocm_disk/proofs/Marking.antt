-- The marks behind a change of one word, and of a disk's bytes with `ee` in each that is marked.
use Rattle.std.proofs.Common.{◌≡◌, ◌≢◌, ◌≤◌, ◌<◌, ◌+◌, ◌-◌, ◌*◌, ◌/◌, ◌%◌, ◌^◌, ◌==◌, ◌++◌, ℕ, zero, suc, List, [], ◌∷◌, length, take, drop, get_or, set, replicate, refl, sym, ◌∙◌, ap, arith, min, max, bit_or, subst, if◌then◌else◌, ⊎_elim}
use Rattle.std.proofs.lemmas.List.{get_or-set_same, get_or-set_other, ext_get_or, get_or_append_left, get_or-append_right, get_or_past, get_or-replicate, length-replicate}
use Rattle.std.proofs.lemmas.Bool.{cases_lt}
use Rattle.std.proofs.lemmas.Nat.Bits.{bit_at_or, bit_at_mask_inside, bit_at_mask_below, bit_at_mask_above, bit_at-lt}
use Rattle.std.specs.Int.{bit_at}
use Rattle.ocm_disk.specs.Marks.{mark_at, ruined_from, ruined}

-- a word with the bits of a mask set
abbrev pub with_word : List ℕ → ℕ → ℕ → List ℕ
with_word words at mask = set words at (bit_or (get_or words at 0) mask)

pub mark_here : (words : List ℕ) (at mask place : ℕ) → at < length words → place / 8 ≡ at → mark_at (with_word words at mask) place ≡ max (mark_at words place) (bit_at mask (place % 8))
mark_here words at mask place within here =
    subst (λ (w : ℕ). bit_at (get_or (with_word words at mask) w 0) (place % 8) ≡ max (bit_at (get_or words w 0) (place % 8)) (bit_at mask (place % 8))) (sym here)
    (ap (λ (w : ℕ). bit_at w (place % 8)) (get_or-set_same words at (bit_or (get_or words at 0) mask) 0 within) ∙ bit_at_or (get_or words at 0) mask (place % 8))

pub mark_other : (words : List ℕ) (at mask place : ℕ) → place / 8 ≢ at → mark_at (with_word words at mask) place ≡ mark_at words place
mark_other words at mask place other = ap (λ (w : ℕ). bit_at w (place % 8)) (get_or-set_other words at (place / 8) (bit_or (get_or words at 0) mask) 0 other)

pub mark_inside : (words : List ℕ) (at low high place : ℕ) → at < length words → place / 8 ≡ at → low ≤ place % 8 → place % 8 < high → mark_at (with_word words at (2 ^ high - 2 ^ low)) place ≡ 1
mark_inside words at low high place within here above below =
    let e = mark_here words at (2 ^ high - 2 ^ low) place within here in
    let one = bit_at_mask_inside low high (place % 8) above below in
    let small = bit_at-lt (get_or words (place / 8) 0) (place % 8) in
    omega (arith, e, one, small)

pub mark_below : (words : List ℕ) (at low high place : ℕ) → at < length words → place / 8 ≡ at → place % 8 < low → mark_at (with_word words at (2 ^ high - 2 ^ low)) place ≡ mark_at words place
mark_below words at low high place within here below =
    let e = mark_here words at (2 ^ high - 2 ^ low) place within here in
    let none = bit_at_mask_below low high (place % 8) below in
    omega (arith, e, none)

pub mark_above : (words : List ℕ) (at low high place : ℕ) → at < length words → place / 8 ≡ at → high ≤ place % 8 → mark_at (with_word words at (2 ^ high - 2 ^ low)) place ≡ mark_at words place
mark_above words at low high place within here above =
    let e = mark_here words at (2 ^ high - 2 ^ low) place within here in
    let none = bit_at_mask_above low high (place % 8) above in
    omega (arith, e, none)

-- one word more
module _ (words : List ℕ) (from to at low high m : ℕ) (within : at < length words) (begun : 8 * at < to) (near : from < 8 * at + 8) (lowest : low ≡ from - 8 * at) (highest : high ≡ min (to - 8 * at) 8) (mask : m ≡ 2 ^ high - 2 ^ low) where
  same : with_word words at m ≡ with_word words at (2 ^ high - 2 ^ low)
  same = ap (with_word words at) mask

  along : (place : ℕ) (n : ℕ) → mark_at (with_word words at (2 ^ high - 2 ^ low)) place ≡ n → mark_at (with_word words at m) place ≡ n
  along place n e = ap (λ (w : List ℕ). mark_at w place) same ∙ e

  pub marked_more : ((place : ℕ) → from ≤ place → place < to → place < 8 * at → mark_at words place ≡ 1) → (place : ℕ) → from ≤ place → place < to → place < 8 * (at + 1) → mark_at (with_word words at m) place ≡ 1
  marked_more so_far place above below step = ⊎_elim
      (λ (lt : place < 8 * at). mark_other words at m place (omega arith) ∙ so_far place above below lt)
      (λ (ge : 8 * at ≤ place). along place 1 (mark_inside words at low high place within (omega arith) (omega arith) (omega arith)))
      (cases_lt place (8 * at))

  pub before_more : (place : ℕ) → place < from → mark_at (with_word words at m) place ≡ mark_at words place
  before_more place below = ⊎_elim
      (λ (lt : place < 8 * at). mark_other words at m place (omega arith))
      (λ (ge : 8 * at ≤ place). along place (mark_at words place) (mark_below words at low high place within (omega arith) (omega arith)))
      (cases_lt place (8 * at))

  pub behind_more : (place : ℕ) → to ≤ place → mark_at (with_word words at m) place ≡ mark_at words place
  behind_more place above = ⊎_elim
      (λ (lt : place < 8 * at + 8). along place (mark_at words place) (mark_above words at low high place within (omega arith) (omega arith)))
      (λ (ge : 8 * at + 8 ≤ place). mark_other words at m place (omega arith))
      (cases_lt place (8 * at + 8))

-- ---- the bytes with `ee` in each that is marked
pub length-ruined : (words : List ℕ) (place : ℕ) (bytes : List ℕ) → length (ruined_from words place bytes) ≡ length bytes
length-ruined words place [] = refl
length-ruined words place (byte ∷ bytes) = ap suc (length-ruined words (suc place) bytes)

pub get_or-ruined : (words : List ℕ) (place : ℕ) (bytes : List ℕ) (k : ℕ) → k < length bytes → get_or (ruined_from words place bytes) k 0 ≡ (if mark_at words (place + k) == 1 then 238 else get_or bytes k 0)
get_or-ruined words place [] k within = absurd (omega (arith, within))
get_or-ruined words place (byte ∷ bytes) zero within = ap (λ (p : ℕ). if mark_at words p == 1 then 238 else byte) (let e : place ≡ place + 0 = omega arith in e)
get_or-ruined words place (byte ∷ bytes) (suc k) within =
    get_or-ruined words (suc place) bytes k (omega (arith, within))
    ∙ ap (λ (p : ℕ). if mark_at words p == 1 then 238 else get_or bytes k 0) (let e : suc place + k ≡ place + suc k = omega arith in e)

pub get_or-whole : (words bytes : List ℕ) (k : ℕ) → k < length bytes → get_or (ruined words bytes) k 0 ≡ (if mark_at words k == 1 then 238 else get_or bytes k 0)
get_or-whole words bytes k within =
    get_or-ruined words 0 bytes k within ∙ ap (λ (p : ℕ). if mark_at words p == 1 then 238 else get_or bytes k 0) (let e : 0 + k ≡ k = omega arith in e)

-- a list that has these elements
pub ruined_by_places : (words bytes found : List ℕ) → length found ≡ length bytes → ((k : ℕ) → k < length bytes → get_or found k 0 ≡ (if mark_at words k == 1 then 238 else get_or bytes k 0)) → found ≡ ruined words bytes
ruined_by_places words bytes found long each =
    ext_get_or 0 found (ruined words bytes) (long ∙ sym (length-ruined words 0 bytes))
    (λ k h. each k (omega (arith, long, h)) ∙ sym (get_or-whole words bytes k (omega (arith, long, h))))

-- nothing is marked
pub ruined_nowhere : (words : List ℕ) (place : ℕ) (bytes : List ℕ) → ((k : ℕ) → mark_at words k ≡ 0) → ruined_from words place bytes ≡ bytes
ruined_nowhere words place [] none = refl
ruined_nowhere words place (byte ∷ bytes) none =
    ap (λ (m : ℕ). (if m == 1 then 238 else byte) ∷ ruined_from words (suc place) bytes) (none place) ∙ ap (λ (l : List ℕ). byte ∷ l) (ruined_nowhere words (suc place) bytes none)

-- no byte of these is marked
pub ruined_unmarked : (words : List ℕ) (place : ℕ) (bytes : List ℕ) → ((k : ℕ) → place ≤ k → k < place + length bytes → mark_at words k ≡ 0) → ruined_from words place bytes ≡ bytes
ruined_unmarked words place [] none = refl
ruined_unmarked words place (byte ∷ bytes) none =
    ap (λ (m : ℕ). (if m == 1 then 238 else byte) ∷ ruined_from words (suc place) bytes) (none place (omega arith) (omega arith))
    ∙ ap (λ (l : List ℕ). byte ∷ l) (ruined_unmarked words (suc place) bytes (λ k above below. none k (omega (arith, above)) (omega (arith, below))))

-- other words with the same marks
pub ruined_same : (words others : List ℕ) (place : ℕ) (bytes : List ℕ) → ((k : ℕ) → mark_at others k ≡ mark_at words k) → ruined_from others place bytes ≡ ruined_from words place bytes
ruined_same words others place [] agree = refl
ruined_same words others place (byte ∷ bytes) agree =
    ap (λ (m : ℕ). (if m == 1 then 238 else byte) ∷ ruined_from others (suc place) bytes) (agree place)
    ∙ ap (λ (l : List ℕ). (if mark_at words place == 1 then 238 else byte) ∷ l) (ruined_same words others (suc place) bytes agree)

pub take-ruined : (words : List ℕ) (place n : ℕ) (bytes : List ℕ) → take n (ruined_from words place bytes) ≡ ruined_from words place (take n bytes)
take-ruined words place zero bytes = refl
take-ruined words place (suc n) [] = refl
take-ruined words place (suc n) (byte ∷ bytes) = ap (λ (l : List ℕ). (if mark_at words place == 1 then 238 else byte) ∷ l) (take-ruined words (suc place) n bytes)

pub drop-ruined : (words : List ℕ) (place n : ℕ) (bytes : List ℕ) → drop n (ruined_from words place bytes) ≡ ruined_from words (place + n) (drop n bytes)
drop-ruined words place zero bytes = ap (λ (p : ℕ). ruined_from words p bytes) (let e : place ≡ place + 0 = omega arith in e)
drop-ruined words place (suc n) [] = refl
drop-ruined words place (suc n) (byte ∷ bytes) =
    drop-ruined words (suc place) n bytes ∙ ap (λ (p : ℕ). ruined_from words p (drop n bytes)) (let e : suc place + n ≡ place + suc n = omega arith in e)

get_or_zeros : (n i : ℕ) → get_or {A = ℕ} (replicate n 0) i 0 ≡ 0
get_or_zeros n i = ⊎_elim
    (λ (lt : i < n). get_or-replicate n i 0 0 lt)
    (λ (ge : n ≤ i). get_or_past (replicate n 0) i 0 (omega (arith, length-replicate {A = ℕ}, ge)))
    (cases_lt i n)

-- words behind others, none of whose marks is set
pub mark_zeros : (words : List ℕ) (n place : ℕ) → mark_at (words ++ replicate n 0) place ≡ mark_at words place
mark_zeros words n place = ap (λ (w : ℕ). bit_at w (place % 8)) (⊎_elim
    (λ (lt : place / 8 < length words). get_or_append_left words (replicate n 0) 0 (place / 8) lt)
    (λ (ge : length words ≤ place / 8). get_or-append_right words (replicate n 0) (length words) (place / 8) 0 refl ge ∙ get_or_zeros n (place / 8 - length words) ∙ sym (get_or_past words (place / 8) 0 ge))
    (cases_lt (place / 8) (length words)))
