use Rattle.std.proofs.Common.{◌≡◌, ℕ, ◌+◌, ◌<◌, ◌≤◌, List, [], ◌∷◌, length, take, drop, Bool, true, false, cond, suc, nat_eq, not, Some, None, refl, arith}
use Rattle.std.specs.List.{prefix_len}
use Rattle.std.specs.Prelude.{nat_lt}
use Rattle.std.proofs.lemmas.Bool.Decides.{nat_tests}
use Rattle.std.specs.Prelude.{position}
use Rattle.ocm_script.specs.Lines.{lines_of, onto, is_line_feed}

abbrev in_line : ℕ → Bool
in_line b = not (nat_eq b 10)

-- the first line stands before the first line feed
lines_at : (bs : List ℕ) → prefix_len in_line bs < length bs → lines_of bs ≡ take (prefix_len in_line bs) bs ∷ lines_of (drop (suc (prefix_len in_line bs)) bs)
lines_at [] h = absurd (omega arith)
lines_at (b ∷ bs) h =
    let k = prefix_len in_line bs in
    let P : Bool → Type 0 = λ t. cond (not t) (1 + k) 0 < suc (length bs) → cond t ([] ∷ lines_of bs) (onto b (lines_of bs)) ≡ take (cond (not t) (1 + k) 0) (b ∷ bs) ∷ lines_of (drop (suc (cond (not t) (1 + k) 0)) (b ∷ bs)) in
    (elim (nat_eq b 10) as P [ true ↦ (λ h. refl) | false ↦ (λ h. let e : 1 + k ≡ suc k = omega arith in rw (e, lines_at bs (omega arith)) refl) ]) h

-- without one all is one line
lines_none : (b : ℕ) (bs : List ℕ) → suc (length bs) ≤ prefix_len in_line (b ∷ bs) → lines_of (b ∷ bs) ≡ (b ∷ bs) ∷ []
lines_none b [] h =
    let P : Bool → Type 0 = λ t. 1 ≤ cond (not t) (1 + 0) 0 → cond t ([] ∷ []) ((b ∷ []) ∷ []) ≡ (b ∷ []) ∷ [] in
    (elim (nat_eq b 10) as P [ true ↦ (λ h. absurd (omega arith)) | false ↦ (λ h. refl) ]) h
lines_none b (c ∷ cs) h =
    let k = prefix_len in_line (c ∷ cs) in
    let P : Bool → Type 0 = λ t. suc (suc (length cs)) ≤ cond (not t) (1 + k) 0 → cond t ([] ∷ lines_of (c ∷ cs)) (onto b (lines_of (c ∷ cs))) ≡ (b ∷ c ∷ cs) ∷ [] in
    (elim (nat_eq b 10) as P [ true ↦ (λ h. absurd (omega arith)) | false ↦ (λ h. rw (lines_none c cs (omega arith)) refl) ]) h

placed : (p n i : ℕ) → cond (nat_lt p n) (Some p) None ≡ Some i → (p < n) × (p ≡ i)
placed p n i e = (grind (arith, nat_tests), grind (arith, nat_tests))

unplaced : (p n : ℕ) → cond (nat_lt p n) (Some p) None ≡ None → n ≤ p
unplaced p n e = grind (arith, nat_tests)

-- by the place of the line feed
pub first-Some : (bs rest : List ℕ) (i : ℕ) → position is_line_feed bs ≡ Some i → rest ≡ drop (i + 1) bs → lines_of bs ≡ take i bs ∷ lines_of rest
first-Some bs rest i e r =
    let h = placed (prefix_len in_line bs) (length bs) i e in
    let more : i + 1 ≡ suc i = omega arith in
    rw (r, more, ← h.1) (lines_at bs h.0)

pub first-None : (bs : List ℕ) → position is_line_feed bs ≡ None → 0 < length bs → lines_of bs ≡ bs ∷ []
first-None [] e h = absurd (omega arith)
first-None (b ∷ bs) e h = lines_none b bs (unplaced (prefix_len in_line (b ∷ bs)) (suc (length bs)) e)
