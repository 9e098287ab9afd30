-- Bytes that are blank for some label and area size are blank for those that stand in them.
use Rattle.std.proofs.Common.{◌≡◌, ◌≢◌, ◌≤◌, ◌<◌, ◌⊎◌, ◌==◌, ◌^◌, inl, inr, ℕ, ◌+◌, ◌-◌, Bool, true, false, nat_eq, nat_le, if◌then◌else◌, List, [], ◌∷◌, ◌++◌, length, take, drop, get_or, replicate, Option, Some, None, IsSome, is_some, IsTrue, refl, sym, ◌∙◌, ap, subst, arith, append_assoc, length-append}
use Rattle.std.proofs.lemmas.List.{length-drop, length-take-le, drop_more, length-replicate}
use Rattle.std.proofs.lemmas.Grind.{common_steps}
use Rattle.std.proofs.lemmas.Bool.{eqb-true, leb-true}
use Rattle.std.proofs.lemmas.Bool.Decides.{nat_tests}
use Rattle.std.specs.Int.{w64, to_be_bytes}
use Rattle.std.specs.Cmp.Lexicographic.{pointwise, bytes_decides}
use Rattle.ocm_journal_image.specs.declared.blanks.Blank.{Blank}
use Rattle.ocm_journal_image.specs.declared.blanks.Blank.TheVariants.{Empty, Begun, Written}
use Rattle.ocm_journal_image.specs.Blank.{blank_of, IsBlank, IsBlankForAny}
use Rattle.ocm_journal_image.specs.Layout.{fresh, named, IsLabel, IsForm}
use Rattle.ocm_journal_image.specs.Reading.{area_in}
use Rattle.ocm_journal_image.proofs.ImageRead.{header_in_is}

-- which of the tests of blank bytes passed
pub picked : (a b s c d e : Bool) (k l m n : Option Blank) → IsSome (if a then k else if b then (if s then l else None) else if c then None else if d then m else if e then n else None) → (a ≡ true) ⊎ ((b ≡ true) × (s ≡ true)) ⊎ ((c ≡ false) × ((d ≡ true) ⊎ (e ≡ true)))
picked true b s c d e k l m n is = inl refl
picked false true true c d e k l m n is = inr (inl (refl, refl))
picked false true false c d e k l m n is = absurd cc
picked false false s true d e k l m n is = absurd cc
picked false false s false true e k l m n is = inr (inr (refl, inl refl))
picked false false s false false true k l m n is = inr (inr (refl, inr refl))
picked false false s false false false k l m n is = absurd cc

-- the three cases
pub blank_cases : (label : List ℕ) (area : ℕ) (bytes : List ℕ) → IsBlank label area bytes → (nat_le (length bytes) 1 ≡ true) ⊎ (((get_or bytes 0 0 == 0) ≡ true) × (nat_le (length bytes) 514 ≡ true)) ⊎ (((get_or bytes 0 0 == 1) ≡ false) × ((form : ℕ) × IsForm form × (drop 1 bytes ≡ fresh label area form)))
blank_cases label area bytes blank = elim (picked (nat_le (length bytes) 1) (get_or bytes 0 0 == 0) (nat_le (length bytes) 514) (get_or bytes 0 0 == 1) (pointwise nat_eq (drop 1 bytes) (fresh label area 1)) (pointwise nat_eq (drop 1 bytes) (fresh label area 2)) (Some Empty) (Some Begun) (Some (Written 1)) (Some (Written 2)) blank) [
  | inl few ↦ inl few
  | inr (inl begun) ↦ inr (inl begun)
  | inr (inr (one, inl first)) ↦ inr (inr (one, (1, inl refl, (bytes_decides (drop 1 bytes) (fresh label area 1)).0 first)))
  | inr (inr (one, inr second)) ↦ inr (inr (one, (2, inr refl, (bytes_decides (drop 1 bytes) (fresh label area 2)).0 second)))
]

length_known : (bytes label : List ℕ) (area form : ℕ) → IsLabel label → drop 1 bytes ≡ fresh label area form → 1 < length bytes → length bytes ≡ 514
length_known bytes label area form sizes is some =
    let zeros : List ℕ = replicate (494 - length label) 0 in
    let e : length (fresh label area form) ≡ 513 = omega (arith, length-append (named label area ++ 1 ∷ zeros) (form ∷ 0 ∷ []), length-append (named label area) (1 ∷ zeros), length-append label (to_be_bytes w64 area), length-replicate {A = ℕ} (494 - length label) 0, sizes.1) in
    omega (arith, ap length is, e, length-drop 1 bytes, some)

pub few_is_blank : (bytes : List ℕ) → length bytes ≤ 1 → IsBlankForAny bytes
few_is_blank bytes few = (0 ∷ [], 0, (omega arith, omega arith), omega arith, grind (arith, nat_tests, common_steps))

-- the case that begins with 0
pub begun_is_blank : (bytes : List ℕ) → get_or bytes 0 0 ≡ 0 → length bytes ≤ 514 → IsBlankForAny bytes
begun_is_blank bytes zero_first few = (0 ∷ [], 0, (omega arith, omega arith), omega arith, grind (arith, nat_tests, common_steps, zero_first))

pub begun_is_short : (bytes : List ℕ) → 1 < length bytes → get_or bytes 0 0 ≡ 0 → IsBlankForAny bytes → length bytes ≤ 514
begun_is_short bytes some zero_first (label, area, sizes, fits, blank) = elim (blank_cases label area bytes blank) [
  | inl few ↦ grind (arith, nat_tests, common_steps, few)
  | inr (inl begun) ↦ grind (arith, nat_tests, common_steps, begun.1)
  | inr (inr other) ↦ let e = length_known bytes label area other.1.0 sizes other.1.2 some in omega (arith, e)
]

-- what else is blank is fresh behind its first byte
pub fresh_behind : (label : List ℕ) (area : ℕ) (bytes : List ℕ) → 1 < length bytes → get_or bytes 0 0 ≢ 0 → IsBlank label area bytes → (form : ℕ) × (drop 1 bytes ≡ fresh label area form)
fresh_behind label area bytes some other_first blank = elim (blank_cases label area bytes blank) [
  | inl few ↦ absurd (omega (arith, leb-true _ _ few, some))
  | inr (inl begun) ↦ absurd (other_first (eqb-true _ _ begun.0))
  | inr (inr other) ↦ (other.1.0, other.1.2)
]

fresh_text : (label bytes : List ℕ) (area form : ℕ) → 1 < length bytes → drop 1 bytes ≡ fresh label area form → bytes ≡ (get_or bytes 0 0 ∷ named label area ++ 1 ∷ []) ++ (replicate (494 - length label) 0 ++ form ∷ 0 ∷ [])
fresh_text label bytes area form some is =
    let first : ℕ = get_or bytes 0 0 in
    let zeros : List ℕ = replicate (494 - length label) 0 in
    let flat : (named label area ++ 1 ∷ zeros) ++ form ∷ 0 ∷ [] ≡ (named label area ++ 1 ∷ []) ++ (zeros ++ form ∷ 0 ∷ []) = append_assoc (named label area) (1 ∷ zeros) (form ∷ 0 ∷ []) ∙ sym (append_assoc (named label area) (1 ∷ []) (zeros ++ form ∷ 0 ∷ [])) in
    drop_more bytes 0 0 (omega (arith, some)) ∙ ap (λ (l : List ℕ). first ∷ l) (is ∙ flat)

-- what stands where fresh bytes have their label and area size
read_off : (label bytes : List ℕ) (area form : ℕ) → 1 < length bytes → area < 2 ^ 64 → drop 1 bytes ≡ fresh label area form → (length label ≡ get_or bytes 8 0) × (take (get_or bytes 8 0) (drop 9 bytes) ≡ label) × (area_in bytes ≡ area)
read_off label bytes area form some fits is =
    let first : ℕ = get_or bytes 0 0 in
    let rest : List ℕ = replicate (494 - length label) 0 ++ form ∷ 0 ∷ [] in
    let text : List ℕ = (first ∷ named label area ++ 1 ∷ []) ++ rest in
    let whole : bytes ≡ text = fresh_text label bytes area form some is in
    let l_is : get_or bytes 8 0 ≡ length label = ap (λ (l : List ℕ). get_or l 8 0) whole in
    let h = header_in_is first label area 1 rest fits in (
      sym l_is,
      ap (λ k. take k (drop 9 bytes)) l_is ∙ ap (λ (l : List ℕ). take (length label) (drop 9 l)) whole ∙ h.0,
      ap (λ (l : List ℕ). area_in l) whole ∙ h.1,
    )

pub other_length : (bytes : List ℕ) → 1 < length bytes → get_or bytes 0 0 ≢ 0 → length bytes ≢ 514 → IsBlankForAny bytes → ⊥
other_length bytes some first other (label, area, sizes, fits, blank) =
    let f = fresh_behind label area bytes some first blank in
    other (length_known bytes label area f.0 sizes f.1 some)

pub no_label : (bytes : List ℕ) → 1 < length bytes → get_or bytes 0 0 ≢ 0 → get_or bytes 8 0 ≡ 0 → IsBlankForAny bytes → ⊥
no_label bytes some first none (label, area, sizes, fits, blank) =
    let f = fresh_behind label area bytes some first blank in
    let r = read_off label bytes area f.0 some fits f.1 in
    omega (arith, r.0, none, sizes.0)

pub blank_for_these : (bytes : List ℕ) → 1 < length bytes → get_or bytes 0 0 ≢ 0 → IsBlankForAny bytes → IsBlank (take (get_or bytes 8 0) (drop 9 bytes)) (area_in bytes) bytes
blank_for_these bytes some first (label, area, sizes, fits, blank) =
    let f = fresh_behind label area bytes some first blank in
    let r = read_off label bytes area f.0 some fits f.1 in
    subst (λ (l : List ℕ). IsBlank l (area_in bytes) bytes) (sym r.1) (subst (λ a. IsBlank label a bytes) (sym r.2) blank)

pub these_are_some : (bytes : List ℕ) (area : ℕ) → area ≡ area_in bytes → area < 2 ^ 64 → get_or bytes 8 0 < 256 → get_or bytes 8 0 ≢ 0 → length bytes ≡ 514 → IsBlank (take (get_or bytes 8 0) (drop 9 bytes)) (area_in bytes) bytes → IsBlankForAny bytes
these_are_some bytes area is fits few some long blank =
    let size : length (take (get_or bytes 8 0) (drop 9 bytes)) ≡ get_or bytes 8 0 = length-take-le (get_or bytes 8 0) (drop 9 bytes) (omega (arith, length-drop 9 bytes, few, long)) in
    (take (get_or bytes 8 0) (drop 9 bytes), area, (omega (arith, size, some), omega (arith, size, few)), fits, subst (λ a. IsBlank (take (get_or bytes 8 0) (drop 9 bytes)) a bytes) (sym is) blank)

pub last_answer : (bytes : List ℕ) (area l : ℕ) (o : Option Blank) (b : Bool) → 1 < length bytes → get_or bytes 0 0 ≢ 0 → length bytes ≡ 514 → get_or bytes 8 0 < 256 → area ≡ area_in bytes → area < 2 ^ 64 → 9 + get_or bytes 8 0 ≢ 9 → l ≡ get_or bytes 8 0 → o ≡ blank_of (take l (drop 9 bytes)) area bytes → b ≡ is_some o → (IsTrue b → IsBlankForAny bytes) × (IsBlankForAny bytes → IsTrue b)
last_answer bytes area l o b some first long few area_is fits labelled l_is o_is b_is =
    let e : b ≡ is_some (blank_of (take (get_or bytes 8 0) (drop 9 bytes)) (area_in bytes) bytes) = b_is ∙ ap (λ (x : Option Blank). is_some x) o_is ∙ ap (λ a. is_some (blank_of (take l (drop 9 bytes)) a bytes)) area_is ∙ ap (λ k. is_some (blank_of (take k (drop 9 bytes)) (area_in bytes) bytes)) l_is in (
      (λ t. these_are_some bytes area area_is fits few (λ z. labelled (omega (arith, z))) long (sym e ∙ t)),
      (λ blank. e ∙ blank_for_these bytes some first blank),
    )
