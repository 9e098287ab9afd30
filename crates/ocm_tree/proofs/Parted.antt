use Rattle.std.proofs.Common.{◌≡◌, ℕ, zero, suc, ◌+◌, ◌-◌, ◌<◌, ◌≤◌, List, [], ◌∷◌, length, take, drop, get_or, Bool, true, false, not, ◌&&◌, ◌||◌, cond, Some, None, refl, sym, ap, subst, ◌∙◌, arith}
use Rattle.std.specs.Prelude.{filter, if◌then◌else◌, nat_eq, nat_lt, nat_le, count_by}
use Rattle.std.specs.List.{list_any, position, position_or_len}
use Rattle.std.specs.Option.{IsSome}
use Rattle.std.proofs.lemmas.Bool.Decides.{nat_tests}
use Rattle.std.proofs.Math.Seq.{take-length, drop-cons}
use Rattle.ocm_tree.specs.Orders.{numbers_where}
use Rattle.std.proofs.lemmas.List.{length-drop, drop-drop, get_or-drop}
use Rattle.std.proofs.lemmas.List.Sums.{sum_by-cons, passes_at_first}

-- where the first items pass a test and all others fail it, the first are those that pass
pub taken : {X : Type 0} (p : X → Bool) (xs : List X) (i : ℕ) → i ≤ length xs → ((k : ℕ) (d : X) → k < i → p (get_or xs k d) ≡ true) → ((k : ℕ) (d : X) → i ≤ k → k < length xs → p (get_or xs k d) ≡ false) → take i xs ≡ filter p xs
taken p [] zero l before later = refl
taken p [] (suc i) l before later = absurd (omega arith)
taken p (x ∷ xs) zero l before later = rw (later 0 x (omega arith) (omega arith)) (taken p xs zero (omega arith) (λ k d m. absurd (omega arith)) (λ k d m n. later (suc k) d (omega arith) (omega (arith, n))))
taken p (x ∷ xs) (suc i) l before later = rw (before 0 x (omega arith)) (ap (λ rest. x ∷ rest) (taken p xs i (omega (arith, l)) (λ k d m. before (suc k) d (omega (arith, m))) (λ k d m n. later (suc k) d (omega (arith, m)) (omega (arith, n)))))

-- and the others are those that fail
pub dropped : {X : Type 0} (p : X → Bool) (xs : List X) (i : ℕ) → i ≤ length xs → ((k : ℕ) (d : X) → k < i → p (get_or xs k d) ≡ true) → ((k : ℕ) (d : X) → i ≤ k → k < length xs → p (get_or xs k d) ≡ false) → drop i xs ≡ filter (λ x. not (p x)) xs
dropped p [] zero l before later = refl
dropped p [] (suc i) l before later = absurd (omega arith)
dropped p (x ∷ xs) zero l before later = rw (later 0 x (omega arith) (omega arith)) (ap (λ rest. x ∷ rest) (dropped p xs zero (omega arith) (λ k d m. absurd (omega arith)) (λ k d m n. later (suc k) d (omega arith) (omega (arith, n)))))
dropped p (x ∷ xs) (suc i) l before later = rw (before 0 x (omega arith)) (dropped p xs i (omega (arith, l)) (λ k d m. before (suc k) d (omega (arith, m))) (λ k d m n. later (suc k) d (omega (arith, m)) (omega (arith, n))))

-- whether an item passes a test among those that pass another
pub any-filter : {X : Type 0} (p q : X → Bool) (xs : List X) → list_any p (filter q xs) ≡ list_any (λ x. q x && p x) xs
any-filter p q [] = refl
any-filter p q (x ∷ xs) = by_test (any-filter p q xs) (q x)
  where
    by_test : list_any p (filter q xs) ≡ list_any (λ y. q y && p y) xs → (b : Bool) → list_any p (if b then x ∷ filter q xs else filter q xs) ≡ ((b && p x) || list_any (λ y. q y && p y) xs)
    by_test rest true = ap (λ found. p x || found) rest
    by_test rest false = rest

-- tests that agree find alike
pub any-alike : {X : Type 0} (p q : X → Bool) → ((x : X) → p x ≡ q x) → (xs : List X) → list_any p xs ≡ list_any q xs
any-alike p q h [] = refl
any-alike p q h (x ∷ xs) = rw (h x, any-alike p q h xs) refl

count-step : (b : Bool) (rest : ℕ) (found : Bool) → found ≡ nat_lt 0 rest → (b || found) ≡ nat_lt 0 (cond b 1 0 + rest)
count-step true rest found h = grind (arith, nat_tests)
count-step false rest found h = h ∙ ap (nat_lt 0) (omega arith)

-- an item passes where their count is not zero
pub any-count : {X : Type 0} (p : X → Bool) (xs : List X) → list_any p xs ≡ nat_lt 0 (count_by p xs)
any-count p [] = refl
any-count p (x ∷ xs) = count-step (p x) (count_by p xs) (list_any p xs) (any-count p xs) ∙ sym (ap (nat_lt 0) (sum_by-cons (λ y. cond (p y) 1 0) x xs))

pub or-later : (b c : Bool) → c ≡ true → (b || c) ≡ true
or-later true c h = refl
or-later false c h = h

-- an item of a list that passes is found
pub any-at : {X : Type 0} (p : X → Bool) (xs : List X) (k : ℕ) (d : X) → k < length xs → p (get_or xs k d) ≡ true → list_any p xs ≡ true
any-at p [] k d l h = absurd (omega arith)
any-at p (x ∷ xs) zero d l h = rw h refl
any-at p (x ∷ xs) (suc k) d l h = or-later (p x) (list_any p xs) (any-at p xs k d (omega (arith, l)) h)

-- a number that is neither earlier nor later than another is the other
pub neither : (m k : ℕ) (b : Bool) → (not (nat_lt m k) && (nat_le m k && b)) ≡ (nat_eq m k && b)
neither m k b = by_tests (nat_lt m k) refl (nat_le m k) refl (nat_eq m k) refl
  where
    by_tests : (l : Bool) → nat_lt m k ≡ l → (e : Bool) → nat_le m k ≡ e → (q : Bool) → nat_eq m k ≡ q → (not l && (e && b)) ≡ (q && b)
    by_tests true f e g true h = absurd (grind (arith, nat_tests))
    by_tests true f e g false h = refl
    by_tests false f true g true h = refl
    by_tests false f true g false h = absurd (grind (arith, nat_tests))
    by_tests false f false g true h = absurd (grind (arith, nat_tests))
    by_tests false f false g false h = refl

-- where an item passes, there is a first
pub first-within : {X : Type 0} (p : X → Bool) (xs : List X) → list_any p xs ≡ true → position_or_len p xs < length xs
first-within p [] h = absurd (cc)
first-within p (x ∷ xs) h = by_test (first-within p xs) (p x) h
  where
    by_test : (list_any p xs ≡ true → position_or_len p xs < length xs) → (b : Bool) → (b || list_any p xs) ≡ true → cond (not b) (1 + position_or_len p xs) 0 < length (x ∷ xs)
    by_test rest true g = omega arith
    by_test rest false g = omega (arith, rest g)

-- then there is a position
pub position-some : {X : Type 0} (p : X → Bool) (xs : List X) → list_any p xs ≡ true → IsSome (position p xs)
position-some p xs h = let test : nat_lt (position_or_len p xs) (length xs) ≡ true = grind (arith, nat_tests, first-within p xs h) in rw test refl

-- the item at the position passes
pub position-passes : {X : Type 0} (p : X → Bool) (xs : List X) (i : ℕ) (d : X) → position p xs ≡ Some i → (i < length xs) × (p (get_or xs i d) ≡ true)
position-passes p xs i d e = by_test (nat_lt (position_or_len p xs) (length xs)) refl e
  where
    by_test : (b : Bool) → nat_lt (position_or_len p xs) (length xs) ≡ b → cond b (Some (position_or_len p xs)) None ≡ Some i → (i < length xs) × (p (get_or xs i d) ≡ true)
    by_test true f g =
        let within : position_or_len p xs < length xs = grind (arith, nat_tests) in
        let same : position_or_len p xs ≡ i = cc in
        subst (λ k. (k < length xs) × (p (get_or xs k d) ≡ true)) same (within, passes_at_first p xs d within)
    by_test false f g = absurd (cc)

-- a number that is another is not earlier
pub no-earlier : (m k : ℕ) (b : Bool) → (not (nat_lt m k) && (nat_eq m k && b)) ≡ (nat_eq m k && b)
no-earlier m k b = by_tests (nat_lt m k) refl (nat_eq m k) refl
  where
    by_tests : (l : Bool) → nat_lt m k ≡ l → (q : Bool) → nat_eq m k ≡ q → (not l && (q && b)) ≡ (q && b)
    by_tests true f true h = absurd (grind (arith, nat_tests))
    by_tests true f false h = refl
    by_tests false f q h = refl

-- the items from one on, as a slice has them
pub rest-drop : {X : Type 0} (xs : List X) (i : ℕ) → take (length xs - i) (drop i xs) ≡ drop i xs
rest-drop xs i = ap (λ n. take n (drop i xs)) (sym (length-drop i xs)) ∙ take-length (drop i xs)

-- the numbers of the items from one on, where it passes and where it fails
pub where-true : {X : Type 0} (p : X → Bool) (xs : List X) (ns : List ℕ) (i : ℕ) (d : X) → length xs ≡ length ns → i < length xs → p (get_or xs i d) ≡ true →
    numbers_where p (drop i xs) (drop i ns) ≡ get_or ns i 0 ∷ numbers_where p (drop (i + 1) xs) (drop (i + 1) ns)
where-true p xs ns i d same within h =
    let next : i + 1 ≡ suc i = omega arith in
    rw (next, drop-cons xs i d within, drop-cons ns i 0 (omega arith), h) refl

pub where-false : {X : Type 0} (p : X → Bool) (xs : List X) (ns : List ℕ) (i : ℕ) (d : X) → length xs ≡ length ns → i < length xs → p (get_or xs i d) ≡ false →
    numbers_where p (drop i xs) (drop i ns) ≡ numbers_where p (drop (i + 1) xs) (drop (i + 1) ns)
where-false p xs ns i d same within h =
    let next : i + 1 ≡ suc i = omega arith in
    rw (next, drop-cons xs i d within, drop-cons ns i 0 (omega arith), h) refl

-- as many items pass as there are numbers of them
pub length-where : {X : Type 0} (p : X → Bool) (xs : List X) (ns : List ℕ) → length xs ≡ length ns → length (numbers_where p xs ns) ≡ length (filter p xs)
length-where p [] ns same = refl
length-where p (x ∷ xs) [] same = absurd (omega arith)
length-where p (x ∷ xs) (n ∷ ns) same = by_test (length-where p xs ns (omega (arith, same))) (p x)
  where
    by_test : length (numbers_where p xs ns) ≡ length (filter p xs) → (b : Bool) → length (if b then n ∷ numbers_where p xs ns else numbers_where p xs ns) ≡ length (if b then x ∷ filter p xs else filter p xs)
    by_test rest true = omega (arith, rest)
    by_test rest false = rest

-- lists that agree from one item on agree on this one, and from the next on
pub left-further : (xs ys : List ℕ) (i : ℕ) → drop i xs ≡ drop i ys → drop (i + 1) xs ≡ drop (i + 1) ys
left-further xs ys i h = sym (drop-drop 1 i xs) ∙ (ap (drop 1) h ∙ drop-drop 1 i ys)

pub left-first : (xs ys : List ℕ) (i : ℕ) → drop i xs ≡ drop i ys → get_or xs i 0 ≡ get_or ys i 0
left-first xs ys i h =
    let here : i + 0 ≡ i = omega arith in
    ap (λ k. get_or xs k 0) (sym here) ∙ (sym (get_or-drop i xs 0 0) ∙ (ap (λ l. get_or l 0 0) h ∙ (get_or-drop i ys 0 0 ∙ ap (λ k. get_or ys k 0) here)))

-- no more numbers of items than numbers
pub where-fewer : {X : Type 0} (p : X → Bool) (xs : List X) (ns : List ℕ) → length (numbers_where p xs ns) ≤ length ns
where-fewer p [] [] = omega arith
where-fewer p [] (n ∷ ns) = omega arith
where-fewer p (x ∷ xs) [] = omega arith
where-fewer p (x ∷ xs) (n ∷ ns) = by_test (where-fewer p xs ns) (p x)
  where
    by_test : length (numbers_where p xs ns) ≤ length ns → (b : Bool) → length (if b then n ∷ numbers_where p xs ns else numbers_where p xs ns) ≤ length (n ∷ ns)
    by_test rest true = omega (arith, rest)
    by_test rest false = omega (arith, rest)
