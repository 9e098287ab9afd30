use Rattle.std.proofs.Common.{◌≡◌, ◌≢◌, ℕ, suc, ◌+◌, ◌<◌, ◌≤◌, List, [], ◌∷◌, length, get_or, Bool, true, false, cond, refl, sym, ap, ◌∙◌, arith, ◌⊎◌, ⊎_elim, inl, inr}
use Rattle.std.specs.Prelude.{nat_eq}
use Rattle.std.specs.List.{insert, remove}
use Rattle.std.specs.List.Sorted.{IsNonDecreasing}
use Rattle.std.proofs.lemmas.List.Sums.{sum_by-append}
use Rattle.std.proofs.lemmas.List.Sorted.{IsPermutation-insert, IsPermutation-remove, sum_by-IsPermutation}
use Rattle.std.proofs.lemmas.List.Edits.{length-remove, get_or-remove_below, get_or-remove_above}
use Rattle.ocm_outgoing.specs.Threads.{times}
use Rattle.std.proofs.lemmas.Bool.Decides.{nat_tests}

-- numbers that do not fall, from n on
abbrev pub Rises : ℕ → List ℕ → Type 0
Rises n [] = Unit {0}
Rises n (x ∷ xs) = (n ≤ x) × Rises x xs

-- numbers that are those from n on which pass, in order
abbrev pub Lists : (ℕ → Bool) → ℕ → List ℕ → Type 0
Lists flag n [] = (k : ℕ) → n ≤ k → flag k ≡ false
Lists flag n (x ∷ xs) = (n ≤ x) × (flag x ≡ true) × ((k : ℕ) → n ≤ k → k < x → flag k ≡ false) × Lists flag (x + 1) xs

-- a number in a list with one more at its front
pub times-cons : (k x : ℕ) (xs : List ℕ) → times k (x ∷ xs) ≡ cond (nat_eq k x) 1 0 + times k xs
times-cons k x xs = sum_by-append (λ y. cond (nat_eq k y) 1 0) (x ∷ []) xs ∙ ap (λ n. n + times k xs) (zero-plus (cond (nat_eq k x) 1 0))
  where
    zero-plus : (n : ℕ) → 0 + n ≡ n
    zero-plus n = omega arith

times-yes : (k x : ℕ) (xs : List ℕ) → k ≡ x → times k (x ∷ xs) ≡ times k xs + 1
times-yes k x xs e = let same : nat_eq k x ≡ true = grind (arith, nat_tests) in
    times-cons k x xs ∙ (ap (λ b. cond b 1 0 + times k xs) same ∙ one-plus (times k xs))
  where
    one-plus : (n : ℕ) → 1 + n ≡ n + 1
    one-plus n = omega arith

times-no : (k x : ℕ) (xs : List ℕ) → k ≢ x → times k (x ∷ xs) ≡ times k xs
times-no k x xs e = let other : nat_eq k x ≡ false = grind (arith, nat_tests) in
    times-cons k x xs ∙ (ap (λ b. cond b 1 0 + times k xs) other ∙ zero-plus (times k xs))
  where
    zero-plus : (n : ℕ) → 0 + n ≡ n
    zero-plus n = omega arith

below-none : (n k : ℕ) (xs : List ℕ) → Rises n xs → k < n → times k xs ≡ 0
below-none n k [] up h = refl
below-none n k (x ∷ xs) up h = times-no k x xs (omega (arith, up.0)) ∙ below-none x k xs up.1 (omega (arith, up.0))

rises-above : (n : ℕ) (xs : List ℕ) → Rises n xs → times n xs ≡ 0 → Rises (n + 1) xs
rises-above n [] up e = tt
rises-above n (x ∷ xs) up e = (more, up.1)
  where
    differs : n ≢ x
    differs same = let more = times-yes n x xs same in omega (arith, more, e)

    more : n + 1 ≤ x
    more = omega (arith, up.0, differs)

flag-on : (b : Bool) (n : ℕ) → n + 1 ≡ cond b 1 0 → (b ≡ true) × (n ≡ 0)
flag-on true n e = (refl, omega arith)
flag-on false n e = absurd (omega arith)

flag-off : (b : Bool) → cond {A = ℕ} b 1 0 ≡ 0 → b ≡ false
flag-off true e = absurd (omega arith)
flag-off false e = refl

-- numbers that do not fall, each as often as it passes, are those that pass
pub lists-counted : (flag : ℕ → Bool) (n : ℕ) (xs : List ℕ) → Rises n xs → ((k : ℕ) → n ≤ k → times k xs ≡ cond (flag k) 1 0) → Lists flag n xs
lists-counted flag n [] up counts = λ k h. flag-off (flag k) (sym (counts k h))
lists-counted flag n (x ∷ xs) up counts =
    let here = flag-on (flag x) (times x xs) (sym (times-yes x x xs refl) ∙ counts x up.0) in
    (up.0, here.0, before, lists-counted flag (x + 1) xs (rises-above x xs up.1 here.1) after)
  where
    before : (k : ℕ) → n ≤ k → k < x → flag k ≡ false
    before k low high = flag-off (flag k) (sym (counts k low) ∙ (times-no k x xs (omega (arith, high)) ∙ below-none x k xs up.1 high))

    after : (k : ℕ) → x + 1 ≤ k → times k xs ≡ cond (flag k) 1 0
    after k h = sym (times-no k x xs (omega (arith, h))) ∙ counts k (omega (arith, h, up.0))

rises-from : (n : ℕ) (xs : List ℕ) → IsNonDecreasing xs → ((d : ℕ) → 0 < length xs → n ≤ get_or xs 0 d) → Rises n xs
rises-from n [] up low = tt
rises-from n (x ∷ xs) up low = (low 0 (omega arith), rises-from x xs rest (λ d h. up 0 1 d (omega arith) (omega (arith, h))))
  where
    rest : IsNonDecreasing xs
    rest i j d h k = up (suc i) (suc j) d (omega (arith, h)) (omega (arith, k))

-- sorted numbers do not fall
pub rises : (xs : List ℕ) → IsNonDecreasing xs → Rises 0 xs
rises xs up = rises-from 0 xs up (λ d h. omega arith)

plus-swap : (a b : ℕ) → a + b ≡ b + a
plus-swap a b = omega arith

-- one more number in a list
pub times-insert : (k : ℕ) (xs : List ℕ) (i x : ℕ) → times k (insert xs i x) ≡ times k xs + cond (nat_eq k x) 1 0
times-insert k xs i x = sum_by-IsPermutation (λ y. cond (nat_eq k y) 1 0) (x ∷ xs) (insert xs i x) (IsPermutation-insert xs i x) ∙ (times-cons k x xs ∙ plus-swap (cond (nat_eq k x) 1 0) (times k xs))

-- one number less in a list
pub times-remove : (k : ℕ) (xs : List ℕ) (i x : ℕ) → i < length xs → x ≡ get_or xs i x → times k (remove xs i) + cond (nat_eq k x) 1 0 ≡ times k xs
times-remove k xs i x within is = plus-swap (times k (remove xs i)) (cond (nat_eq k x) 1 0) ∙ (sym (times-cons k x (remove xs i)) ∙ sum_by-IsPermutation (λ y. cond (nat_eq k y) 1 0) xs (x ∷ remove xs i) (IsPermutation-remove xs i x within is))

order : (i a : ℕ) → (i ≤ a) ⊎ (a < i)
order i a = grind (arith, nat_tests)

-- numbers without one of them rise where they rose
pub rises-without : (xs : List ℕ) (i : ℕ) → i < length xs → IsNonDecreasing xs → IsNonDecreasing (remove xs i)
rises-without xs i within up a b d le l = by_order (order i a) (order i b)
  where
    shorter : length (remove xs i) + 1 ≡ length xs
    shorter = length-remove xs i within

    by_order : (i ≤ a) ⊎ (a < i) → (i ≤ b) ⊎ (b < i) → get_or (remove xs i) a d ≤ get_or (remove xs i) b d
    by_order (inl h) (inl k) = rw (get_or-remove_above xs i d a h within, get_or-remove_above xs i d b k within) (up (a + 1) (b + 1) d (omega (arith, le)) (omega (arith, shorter, l)))
    by_order (inl h) (inr k) = absurd (omega (arith, le, h, k))
    by_order (inr h) (inl k) = rw (get_or-remove_below xs i d a h within, get_or-remove_above xs i d b k within) (up a (b + 1) d (omega (arith, le)) (omega (arith, shorter, l)))
    by_order (inr h) (inr k) = rw (get_or-remove_below xs i d a h within, get_or-remove_below xs i d b k within) (up a b d le (omega (arith, shorter, l)))

same-or-not : (k x : ℕ) → (k ≡ x) ⊎ (k ≢ x)
same-or-not k x = grind (arith, nat_tests)

-- where a number of a list is
pub found-place : (x d : ℕ) (xs : List ℕ) → 0 < times x xs → (i : ℕ) × (i < length xs) × (get_or xs i d ≡ x)
found-place x d [] there = absurd (omega arith)
found-place x d (y ∷ ys) there = ⊎_elim
    (λ same. (0, omega arith, sym same))
    (λ other. let rest = found-place x d ys (omega (arith, there, times-no x y ys other)) in (suc rest.0, omega (arith, rest.1), rest.2))
    (same-or-not x y)

-- where the numbers below one end, there it is
pub place-there : (xs : List ℕ) (x p d : ℕ) → IsNonDecreasing xs → 0 < times x xs → ((k d : ℕ) → k < p → get_or xs k d < x) → ((k d : ℕ) → p ≤ k → k < length xs → x ≤ get_or xs k d) → (p < length xs) × (x ≡ get_or xs p d)
place-there xs x p d up there below behind = (within, is)
  where
    found : (i : ℕ) × (i < length xs) × (get_or xs i d ≡ x)
    found = found-place x d xs there

    reached : p ≤ found.0
    reached = ⊎_elim (λ h. h) (λ h. let less = below found.0 d h in absurd (omega (arith, less, found.2))) (order p found.0)

    within : p < length xs
    within = omega (arith, reached, found.1)

    is : x ≡ get_or xs p d
    is = let low = behind p d (omega arith) within in let high = up p found.0 d reached found.1 in omega (arith, low, high, found.2)
