use Rattle.std.proofs.Common.{◌≡◌, ℕ, zero, suc, ◌+◌, ◌<◌, ◌≤◌, List, [], ◌∷◌, length, get_or, Bool, true, false, cond, refl, sym, ap, ◌∙◌, ◌⊎◌, inl, inr, arith}
use Rattle.std.specs.Prelude.{Option, Some, None, nat_eq, slice_get, ◌&&◌, is_some}
use Rattle.std.specs.List.{insert}
use Rattle.std.specs.Cmp.{IsTotalOrder, nat_cmp_total, on_total, then_total, unsigned_ties}
use Rattle.std.specs.Cmp.Lexicographic.{slice_cmp, nat_list_cmp_total, texts_ties}
use Rattle.std.specs.Ordering.{is_eq, nat_cmp, ordering_then, ordering_reverse}
use Rattle.std.specs.declared.cmp.Ordering.{Ordering}
use Rattle.std.specs.declared.cmp.Ordering.TheVariants.{Less, Equal, Greater}
use Rattle.std.proofs.lemmas.Bool.{cases_lt, and_parts, eqb-true}
use Rattle.std.proofs.lemmas.Slice.Eq.{bytes_eq-Decides}
use Rattle.ocm_rules.specs.Numbers.{same_text}
use Rattle.ocm_rules.proofs.Searches.{some-same}
use Rattle.ocm_chain.specs.Indexes.{found_by, number_or, Ascends, AreBefore, AreBehind, ArePartedAt}

-- within a list something stands
pub get-there : {X : Type 0} (xs : List X) (i : ℕ) → i < length xs → (x : X) × (slice_get xs i ≡ Some x)
get-there [] i h = absurd (omega (arith, h))
get-there (x ∷ xs) zero h = (x, refl)
get-there (x ∷ xs) (suc i) h = get-there xs i (omega (arith, h))

-- ---- the halves of a sorted list

turned : {K : Type 0} (R : K → K → Ordering) → IsTotalOrder R → (a b : K) → R a b ≡ Greater → R b a ≡ Less
turned R o a b h = o.antisymm b a ∙ ap ordering_reverse h

turned_back : {K : Type 0} (R : K → K → Ordering) → IsTotalOrder R → (a b : K) → R b a ≡ Less → R a b ≡ Greater
turned_back R o a b h = o.antisymm a b ∙ ap ordering_reverse h

-- those before an entry come before what the entry comes before
before_one : {E K : Type 0} (R : K → K → Ordering) (o : IsTotalOrder R) (key : E → K) (es : List E) (k : K) (m : ℕ) (e : E) → Ascends (λ a b. R (key a) (key b)) es → slice_get es m ≡ Some e
    → R (key e) k ≡ Less → AreBefore (λ a. R (key a) k) es m
before_one R o key es k m e up at below i a low found = o.trans (key a) (key e) k (up i m a e low found at) below

-- and the entry itself
pub before_more : {E K : Type 0} (R : K → K → Ordering) (o : IsTotalOrder R) (key : E → K) (es : List E) (k : K) (m : ℕ) (e : E) → Ascends (λ a b. R (key a) (key b)) es → slice_get es m ≡ Some e
    → R (key e) k ≡ Less → AreBefore (λ a. R (key a) k) es (m + 1)
before_more {E} R o key es k m e up at below i a low found = by_case (cases_lt i m)
  where
    by_case : (i < m) ⊎ (m ≤ i) → R (key a) k ≡ Less
    by_case (inl lt) = before_one R o key es k m e up at below i a lt found
    by_case (inr ge) =
        let same : i ≡ m = omega arith in
        let here : e ≡ a = some-same e a (sym at ∙ ap (slice_get es) (sym same) ∙ found) in
        ap (λ x. R (key x) k) (sym here) ∙ below

-- an entry that comes behind, and all behind it
pub behind_more : {E K : Type 0} (R : K → K → Ordering) (o : IsTotalOrder R) (key : E → K) (es : List E) (k : K) (m : ℕ) (e : E) → Ascends (λ a b. R (key a) (key b)) es → slice_get es m ≡ Some e
    → R (key e) k ≡ Greater → AreBehind (λ a. R (key a) k) es m
behind_more {E} R o key es k m e up at above i a low found = by_case (cases_lt m i)
  where
    by_case : (m < i) ⊎ (i ≤ m) → R (key a) k ≡ Greater
    by_case (inl lt) = turned_back R o (key a) k (o.trans k (key e) (key a) (turned R o (key e) k above) (up m i e a lt at found))
    by_case (inr le) =
        let same : i ≡ m = omega arith in
        let here : e ≡ a = some-same e a (sym at ∙ ap (slice_get es) (sym same) ∙ found) in
        ap (λ x. R (key x) k) (sym here) ∙ above

-- ---- what is found

-- the first that passes
found_by-at : {E : Type 0} (test : E → Bool) (number : E → ℕ) (es : List E) (place : ℕ) (e : E) → slice_get es place ≡ Some e → test e ≡ true
    → ((i : ℕ) (a : E) → i < place → slice_get es i ≡ Some a → test a ≡ false) → found_by test number es ≡ Some (number e)
found_by-at test number [] place e at passes before = absurd (cc)
found_by-at test number (x ∷ xs) zero e at passes before = let same = some-same x e at in rw (same, passes) refl
found_by-at test number (x ∷ xs) (suc place) e at passes before =
    let first : test x ≡ false = before 0 x (omega arith) refl in
    rw first (found_by-at test number xs place e at passes (λ i a low found. before (suc i) a (omega (arith, low)) found))

-- none where none passes
found_by-none : {E : Type 0} (test : E → Bool) (number : E → ℕ) (es : List E) → ((i : ℕ) (a : E) → slice_get es i ≡ Some a → test a ≡ false) → found_by test number es ≡ None
found_by-none test number [] none = refl
found_by-none test number (x ∷ xs) none =
    let first : test x ≡ false = none 0 x refl in
    rw first (found_by-none test number xs (λ i a found. none (suc i) a found))

-- what an equal entry has is found
pub found_equal : {E K : Type 0} (R : K → K → Ordering) (o : IsTotalOrder R) (key : E → K) (test : E → Bool) (number : E → ℕ) (es : List E) (k : K) → Ascends (λ a b. R (key a) (key b)) es
    → ((e : E) → test e ≡ is_eq (R (key e) k)) → (place : ℕ) (e : E) → slice_get es place ≡ Some e → R (key e) k ≡ Equal → found_by test number es ≡ Some (number e)
found_equal R o key test number es k up tests place e at equal =
    found_by-at test number es place e at (tests e ∙ ap is_eq equal) (λ i a low found.
    let less : R (key a) (key e) ≡ Less = up i place a e low found at in
    let flipped : R (key e) (key a) ≡ Greater = turned_back R o (key e) (key a) less in
    let to : R k (key a) ≡ Greater = sym (o.congr (key e) k (key a) equal) ∙ flipped in
    tests a ∙ ap is_eq (turned R o k (key a) to))

-- where the entries are parted nothing is found
pub found_parted : {E K : Type 0} (R : K → K → Ordering) (key : E → K) (test : E → Bool) (number : E → ℕ) (es : List E) (k : K) → ((e : E) → test e ≡ is_eq (R (key e) k))
    → (place : ℕ) → ArePartedAt (λ e. R (key e) k) es place → found_by test number es ≡ None
found_parted {E} R key test number es k tests place parted =
    found_by-none test number es (λ i a found. by_case i a found (cases_lt i place))
  where
    by_case : (i : ℕ) (a : E) → slice_get es i ≡ Some a → (i < place) ⊎ (place ≤ i) → test a ≡ false
    by_case i a found (inl low) = tests a ∙ ap is_eq (parted.1 i a low found)
    by_case i a found (inr high) = tests a ∙ ap is_eq (parted.2 i a high found)

-- ---- one entry more

-- where an entry stands once one was put in
Stands : {E : Type 0} → List E → ℕ → E → ℕ → E → Type 0
Stands es place e i a = ((i < place) × (slice_get es i ≡ Some a)) ⊎ (((i ≡ place) × (e ≡ a)) ⊎ ((j : ℕ) × (i ≡ suc j) × (place ≤ j) × (slice_get es j ≡ Some a)))

stands-more : {E : Type 0} (x : E) (es : List E) (place : ℕ) (e : E) (i : ℕ) (a : E) → Stands es place e i a → Stands (x ∷ es) (suc place) e (suc i) a
unfolding Stands
stands-more x es place e i a (inl h) = let low = h.0 in inl (omega arith, h.1)
stands-more x es place e i a (inr (inl h)) = inr (inl (ap (λ n. suc n) h.0, h.1))
stands-more x es place e i a (inr (inr h)) = let low = h.2 in inr (inr (suc h.0, ap (λ n. suc n) h.1, omega arith, h.3))

insert-get : {E : Type 0} (es : List E) (place : ℕ) (e : E) (i : ℕ) (a : E) → place ≤ length es → slice_get (insert es place e) i ≡ Some a → Stands es place e i a
unfolding Stands
insert-get es zero e zero a fits found = inr (inl (refl, some-same e a found))
insert-get es zero e (suc i) a fits found = inr (inr (i, refl, omega arith, found))
insert-get [] (suc place) e i a fits found = absurd (omega (arith, fits))
insert-get (x ∷ es) (suc place) e zero a fits found = inl (omega arith, found)
insert-get (x ∷ es) (suc place) e (suc i) a fits found = stands-more x es place e i a (insert-get es place e i a (omega (arith, fits)) found)

-- one more entry at the place at which the others are parted leaves them in order
pub ascends-insert : {E K : Type 0} (R : K → K → Ordering) (o : IsTotalOrder R) (key : E → K) (es : List E) (place : ℕ) (e : E) → Ascends (λ a b. R (key a) (key b)) es
    → ArePartedAt (λ a. R (key a) (key e)) es place → Ascends (λ a b. R (key a) (key b)) (insert es place e)
unfolding Stands
ascends-insert {E} R o key es place e up parted i j a b low at_i at_j =
    by_case (insert-get es place e i a parted.0 at_i) (insert-get es place e j b parted.0 at_j)
  where
    by_case : Stands es place e i a → Stands es place e j b → R (key a) (key b) ≡ Less
    by_case (inl h) (inl k) = up i j a b low h.1 k.1
    by_case (inl h) (inr (inl k)) = ap (λ x. R (key a) (key x)) (sym k.1) ∙ parted.1 i a h.0 h.1
    by_case (inl h) (inr (inr k)) = let lower = h.0 in let higher = k.2 in up i k.0 a b (omega arith) h.1 k.3
    by_case (inr (inl h)) (inl k) = let here = h.0 in let lower = k.0 in absurd (omega arith)
    by_case (inr (inl h)) (inr (inl k)) = let here = h.0 in let there = k.0 in absurd (omega arith)
    by_case (inr (inl h)) (inr (inr k)) = ap (λ x. R (key x) (key b)) (sym h.1) ∙ turned R o (key b) (key e) (parted.2 k.0 b k.2 k.3)
    by_case (inr (inr h)) (inl k) = let here = h.1 in let higher = h.2 in let lower = k.0 in absurd (omega arith)
    by_case (inr (inr h)) (inr (inl k)) = let here = h.1 in let higher = h.2 in let there = k.0 in absurd (omega arith)
    by_case (inr (inr h)) (inr (inr k)) = let here = h.1 in let there = k.1 in up h.0 k.0 a b (omega arith) h.3 k.3

insert-found-step : (b t : Bool) (n m : ℕ) (rest older : Option ℕ) → (t ≡ true → cond b (Some n) older ≡ None) → rest ≡ cond t (Some m) older → cond b (Some n) rest ≡ cond t (Some m) (cond b (Some n) older)
insert-found-step true true n m rest older fresh e = absurd (let bad = fresh refl in cc)
insert-found-step true false n m rest older fresh e = refl
insert-found-step false t n m rest older fresh e = e

-- what is found once an entry was put in that nothing passed by
pub found_by-insert : {E : Type 0} (test : E → Bool) (number : E → ℕ) (es : List E) (place : ℕ) (e : E) → (test e ≡ true → found_by test number es ≡ None)
    → found_by test number (insert es place e) ≡ cond (test e) (Some (number e)) (found_by test number es)
found_by-insert test number es zero e fresh = refl
found_by-insert test number [] (suc place) e fresh = refl
found_by-insert test number (x ∷ xs) (suc place) e fresh =
    insert-found-step (test x) (test e) (number x) (number e) (found_by test number (insert xs place e)) (found_by test number xs) fresh
    (found_by-insert test number xs place e (λ t. rest (test x) (fresh t)))
  where
    rest : (b : Bool) → cond b (Some (number x)) (found_by test number xs) ≡ None → found_by test number xs ≡ None
    rest true h = absurd (cc)
    rest false h = h

-- ---- the orders of secrets and requests

pub secret_tests : (a b : List ℕ) → same_text a b ≡ is_eq (slice_cmp nat_cmp a b)
secret_tests a b = texts_ties a b

-- requests by the parent, and then by the sender's mark
abbrev pub by_request : (ℕ × List ℕ) → (ℕ × List ℕ) → Ordering
by_request a b = ordering_then (nat_cmp a.0 b.0) (slice_cmp nat_cmp a.1 b.1)

pub by_request-total : IsTotalOrder by_request
by_request-total =
    let first : (ℕ × List ℕ) → ℕ = λ p. p.0 in
    let second : (ℕ × List ℕ) → List ℕ = λ p. p.1 in
    then_total (on_total first nat_cmp_total) (on_total second nat_list_cmp_total)

then-tests : (a b : Ordering) → (is_eq a && is_eq b) ≡ is_eq (ordering_then a b)
then-tests Less b = refl
then-tests Equal b = refl
then-tests Greater b = refl

pub request_tests : (p q : ℕ) (a b : List ℕ) → (nat_eq p q && same_text a b) ≡ is_eq (ordering_then (nat_cmp p q) (slice_cmp nat_cmp a b))
request_tests p q a b =
    ap (λ t. t && same_text a b) (unsigned_ties p q) ∙ (ap (λ t. is_eq (nat_cmp p q) && t) (texts_ties a b) ∙ then-tests (nat_cmp p q) (slice_cmp nat_cmp a b))

-- ---- numbers that were kept or are new

-- what is read at a place is what stands there
pub read-is : {X : Type 0} (xs : List X) (i : ℕ) (x y : X) → slice_get xs i ≡ Some x → y ≡ get_or xs i y → y ≡ x
read-is [] i x y at read = absurd (cc)
read-is (z ∷ zs) zero x y at read = read ∙ some-same z x at
read-is (z ∷ zs) (suc i) x y at read = read-is zs i x y at read

-- texts that compare equal are the same
pub text-same : (a b : List ℕ) → same_text a b ≡ true → a ≡ b
text-same a b t = (bytes_eq-Decides a b).0 t

-- requests that compare equal are the same
pub request-same : (p q : ℕ) (a b : List ℕ) → (nat_eq p q && same_text a b) ≡ true → (p ≡ q) × (a ≡ b)
request-same p q a b t = let both = and_parts (nat_eq p q) (same_text a b) t in (eqb-true p q both.0, text-same a b both.1)

pub number_or-new : (b : Bool) (n : ℕ) (older : Option ℕ) → (b ≡ true → older ≡ None) → cond b (Some n) older ≡ number_or older b n
number_or-new true n older h = rw (h refl) refl
number_or-new false n None h = refl
number_or-new false n (Some k) h = refl

pub number_or-kept : (b : Bool) (n : ℕ) (older : Option ℕ) → (b ≡ true → is_some older ≡ true) → older ≡ number_or older b n
number_or-kept b n (Some k) h = refl
number_or-kept true n None h = absurd (let bad = h refl in cc)
number_or-kept false n None h = refl
