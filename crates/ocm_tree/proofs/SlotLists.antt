use Rattle.std.proofs.Common.{◌≡◌, ℕ, zero, suc, ◌+◌, ◌<◌, List, [], ◌∷◌, ◌++◌, length, take, get_or, Bool, true, false, ◌||◌, refl, sym, ap, ◌∙◌, arith}
use Rattle.std.specs.Prelude.{Option, Some, None, map, filter, sum_by, if◌then◌else◌}
use Rattle.std.specs.List.{list_any}
use Rattle.std.proofs.lemmas.List.Sums.{sum_by-cons}
use Rattle.ocm_entry.specs.declared.rows.Node.{Node}
use Rattle.ocm_tree.specs.Tables.{Slots, somes}
use Rattle.ocm_tree.specs.Listing.{listed}

-- a sum over slots is that over their nodes
pub sum_by-somes : (w : Node → ℕ) (v : Option Node → ℕ) → v None ≡ 0 → ((n : Node) → v (Some n) ≡ w n) → (slots : Slots) → sum_by v slots ≡ sum_by w (somes slots)
sum_by-somes w v none some [] = refl
sum_by-somes w v none some (None ∷ slots) = let rest = sum_by-somes w v none some slots in let all = sum_by-cons v None slots in omega (arith, rest, all, none)
sum_by-somes w v none some (Some n ∷ slots) = let rest = sum_by-somes w v none some slots in let all = sum_by-cons v (Some n) slots in let more = sum_by-cons w n (somes slots) in let here = some n in omega (arith, rest, all, more, here)

-- a test of any slot is that of any node
pub any-somes : (p : Node → Bool) (q : Option Node → Bool) → q None ≡ false → ((n : Node) → q (Some n) ≡ p n) → (slots : Slots) → list_any q slots ≡ list_any p (somes slots)
any-somes p q none some [] = refl
any-somes p q none some (None ∷ slots) = ap (λ b. b || list_any q slots) none ∙ any-somes p q none some slots
any-somes p q none some (Some n ∷ slots) = ap (λ b. b || list_any q slots) (some n) ∙ ap (λ b. p n || b) (any-somes p q none some slots)

list-cons : {X : Type 0} (f : Node → X) (p : Node → Bool) (s : Option Node) (slots : Slots) → map f (filter p (somes (s ∷ slots))) ≡ listed f p s ++ map f (filter p (somes slots))
list-cons f p None slots = refl
list-cons f p (Some n) slots = by_test (p n)
  where
    by_test : (b : Bool) → map f (if b then n ∷ filter p (somes slots) else filter p (somes slots)) ≡ (if b then f n ∷ [] else []) ++ map f (filter p (somes slots))
    by_test true = refl
    by_test false = refl

append-empty : {X : Type 0} (xs : List X) → xs ++ [] ≡ xs
append-empty [] = refl
append-empty (x ∷ xs) = ap (λ l. x ∷ l) (append-empty xs)

append-three : {X : Type 0} (a b c : List X) → a ++ (b ++ c) ≡ (a ++ b) ++ c
append-three [] b c = refl
append-three (x ∷ a) b c = ap (λ l. x ∷ l) (append-three a b c)

-- a list of what the nodes in slots are, with one slot more
pub listed-more : {X : Type 0} (f : Node → X) (p : Node → Bool) (slots : Slots) (i : ℕ) (d : Option Node) → i < length slots →
    map f (filter p (somes (take (i + 1) slots))) ≡ map f (filter p (somes (take i slots))) ++ listed f p (get_or slots i d)
listed-more f p slots i d l = let e : i + 1 ≡ suc i = omega arith in rw e (by_number slots i l)
  where
    by_number : (ss : Slots) (j : ℕ) → j < length ss → map f (filter p (somes (take (suc j) ss))) ≡ map f (filter p (somes (take j ss))) ++ listed f p (get_or ss j d)
    by_number [] j l = absurd (omega arith)
    by_number (s ∷ ss) zero l = list-cons f p s [] ∙ append-empty (listed f p s)
    by_number (s ∷ ss) (suc j) l =
        list-cons f p s (take (suc j) ss) ∙ ap (λ r. listed f p s ++ r) (by_number ss j (omega arith))
        ∙ append-three (listed f p s) (map f (filter p (somes (take j ss)))) (listed f p (get_or ss j d))
        ∙ ap (λ r. r ++ listed f p (get_or ss j d)) (sym (list-cons f p s (take j ss)))

-- what was listed with one slot more
pub kept-more : {X : Type 0} (f : Node → X) (p : Node → Bool) (slots : Slots) (i : ℕ) (d : Option Node) (xs ys : List X) → i < length slots → d ≡ get_or slots i d →
    xs ≡ map f (filter p (somes (take i slots))) → ys ≡ xs ++ listed f p d → ys ≡ map f (filter p (somes (take (i + 1) slots)))
kept-more f p slots i d xs ys l g e h =
    h ∙ ap (λ r. xs ++ listed f p r) g ∙ ap (λ r. r ++ listed f p (get_or slots i d)) e ∙ sym (listed-more f p slots i d l)

pub added-none : {X : Type 0} (f : Node → X) (p : Node → Bool) (d : Option Node) (xs ys : List X) → d ≡ None → ys ≡ xs → ys ≡ xs ++ listed f p d
added-none f p d xs ys e h = rw e (h ∙ sym (append-empty xs))

pub added-out : {X : Type 0} (f : Node → X) (p : Node → Bool) (d : Option Node) (n : Node) (xs ys : List X) → d ≡ Some n → p n ≡ false → ys ≡ xs → ys ≡ xs ++ listed f p d
added-out f p d n xs ys e t h = rw (e, t) (h ∙ sym (append-empty xs))

pub added-in : {X : Type 0} (f : Node → X) (p : Node → Bool) (d : Option Node) (n : Node) (xs ys : List X) → d ≡ Some n → p n ≡ true → ys ≡ xs ++ f n ∷ [] → ys ≡ xs ++ listed f p d
added-in f p d n xs ys e t h = rw (e, t) h

or-false : (b c : Bool) → (b || c) ≡ false → (b ≡ false) × (c ≡ false)
or-false true c h = absurd (cc)
or-false false c h = (refl, h)

-- the node of a slot does not pass a test that no node passes
pub any-at : (p : Node → Bool) (slots : Slots) (i : ℕ) (d : Option Node) (n : Node) → i < length slots → get_or slots i d ≡ Some n → list_any p (somes slots) ≡ false → p n ≡ false
any-at p [] i d n l g h = absurd (omega arith)
any-at p (None ∷ slots) zero d n l g h = absurd (cc)
any-at p (Some m ∷ slots) zero d n l g h = let same : m ≡ n = cc in rw (← same) (or-false (p m) (list_any p (somes slots)) h).0
any-at p (None ∷ slots) (suc i) d n l g h = any-at p slots i d n (omega arith) g h
any-at p (Some m ∷ slots) (suc i) d n l g h = any-at p slots i d n (omega arith) g (or-false (p m) (list_any p (somes slots)) h).1
