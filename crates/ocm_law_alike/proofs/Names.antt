-- Nodes of one collection stand in the order of their names, in whatever order they came.
use Rattle.std.proofs.Common.{◌≡◌, ℕ, zero, suc, ◌+◌, ◌-◌, ◌<◌, ◌≤◌, List, [], ◌∷◌, ◌++◌, length, take, Bool, true, false, not, refl, sym, ap, ◌∙◌, arith}
use Rattle.std.specs.Prelude.{nat_eq, nat_lt, ◌&&◌, ◌||◌, Option, Some, None, slice_get, unwrap_or, filter, if◌then◌else◌, ◌⊎◌}
use mathlib.Core.Logic.{inl, inr}
use Rattle.std.proofs.Common.{eqb-true, eq-eqb}
use Rattle.std.proofs.lemmas.Bool.{ltb-true, ltb-false, lt-ltb, le-ltb}
use Rattle.std.proofs.lemmas.Bool.Decides.{nat_tests}
use Rattle.ocm_path.specs.Paths.{Segments, is_root, parent, last}
use Rattle.ocm_entry.specs.declared.rows.Place.{Place}
use Rattle.ocm_entry.specs.declared.rows.Node.{Node}
use Rattle.ocm_rules.specs.Files.{same_place, parent_of, is_before, name_at, put_in_order, in_order, children}
use Rattle.ocm_rules.proofs.Lists.{not_both}
use Rattle.ocm_rules.proofs.Places.{same_place-equal, same_place-refl}
use Rattle.ocm_law_alike.proofs.Taken.{IsGathered, StandAlike, gathered-alike}

-- ---- the byte order of names

below-other : (a b : ℕ) → a ≤ b → nat_eq a b ≡ false → a < b
below-other a b le e = by_lt (nat_lt a b) refl
  where
    by_lt : (f : Bool) → nat_lt a b ≡ f → a < b
    by_lt true k = ltb-true a b k
    by_lt false k = absurd (not_both (nat_eq a b) (eq-eqb a b (let ge = ltb-false a b k in omega (arith, le, ge))) e)

-- what is not before another is the same first and then not before it, or comes after it
not-before : (x y : ℕ) (rest : Bool) → (nat_lt x y || (nat_eq x y && rest)) ≡ false → (y < x) ⊎ ((x ≡ y) × (rest ≡ false))
not-before x y rest h = by_tests (nat_lt x y) refl (nat_eq x y) refl h
  where
    by_tests : (b : Bool) → nat_lt x y ≡ b → (c : Bool) → nat_eq x y ≡ c → (b || (c && rest)) ≡ false → (y < x) ⊎ ((x ≡ y) × (rest ≡ false))
    by_tests true hb c hc g = absurd (cc)
    by_tests false hb true hc g = inr (eqb-true x y hc, g)
    by_tests false hb false hc g = inl (by_apart (ltb-false x y hb))
      where
        by_apart : y ≤ x → y < x
        by_apart le = by_same (nat_eq y x) refl
          where
            by_same : (d : Bool) → nat_eq y x ≡ d → y < x
            by_same true e = absurd (not_both (nat_eq x y) (eq-eqb x y (sym (eqb-true y x e))) hc)
            by_same false e = below-other y x le e

after-not_before : (x y : ℕ) (rest : Bool) → y < x → (nat_lt x y || (nat_eq x y && rest)) ≡ false
after-not_before x y rest h = rw (le-ltb x y (omega (arith, h)), different) refl
  where
    different : nat_eq x y ≡ false
    different = by_test (nat_eq x y) refl
      where
        by_test : (b : Bool) → nat_eq x y ≡ b → b ≡ false
        by_test true e = absurd (let same = eqb-true x y e in omega (arith, same, h))
        by_test false e = refl

same-not_before : (x y : ℕ) (rest : Bool) → x ≡ y → rest ≡ false → (nat_lt x y || (nat_eq x y && rest)) ≡ false
same-not_before x y rest e f = rw (le-ltb x y (omega (arith, e)), eq-eqb x y e, f) refl

chain : (a b c : List ℕ) → is_before a b ≡ false → is_before b c ≡ false → is_before a c ≡ false
chain a b [] h k = refl
chain a [] (z ∷ zs) h k = absurd (cc)
chain [] (y ∷ ys) (z ∷ zs) h k = absurd (cc)
chain (x ∷ xs) (y ∷ ys) (z ∷ zs) h k = by_cases (chain xs ys zs) (not-before x y (is_before xs ys) h) (not-before y z (is_before ys zs) k)
  where
    by_cases : (is_before xs ys ≡ false → is_before ys zs ≡ false → is_before xs zs ≡ false) → (y < x) ⊎ ((x ≡ y) × (is_before xs ys ≡ false)) → (z < y) ⊎ ((y ≡ z) × (is_before ys zs ≡ false)) → is_before (x ∷ xs) (z ∷ zs) ≡ false
    by_cases rest (inl a) (inl b) = after-not_before x z (is_before xs zs) (omega (arith, a, b))
    by_cases rest (inl a) (inr b) = let e = b.0 in after-not_before x z (is_before xs zs) (omega (arith, a, e))
    by_cases rest (inr a) (inl b) = let e = a.0 in after-not_before x z (is_before xs zs) (omega (arith, e, b))
    by_cases rest (inr a) (inr b) = same-not_before x z (is_before xs zs) (a.0 ∙ b.0) (rest a.1 b.1)

-- two names of which neither is before the other are the same
neither : (a b : List ℕ) → is_before a b ≡ false → is_before b a ≡ false → a ≡ b
neither [] [] h k = refl
neither [] (y ∷ ys) h k = absurd (cc)
neither (x ∷ xs) [] h k = absurd (cc)
neither (x ∷ xs) (y ∷ ys) h k = by_cases (neither xs ys) (not-before x y (is_before xs ys) h) (not-before y x (is_before ys xs) k)
  where
    cons-same : (p q : ℕ) (ps qs : List ℕ) → p ≡ q → ps ≡ qs → p ∷ ps ≡ q ∷ qs
    cons-same p q ps qs e f = rw (e, f) refl

    by_cases : (is_before xs ys ≡ false → is_before ys xs ≡ false → xs ≡ ys) → (y < x) ⊎ ((x ≡ y) × (is_before xs ys ≡ false)) → (x < y) ⊎ ((y ≡ x) × (is_before ys xs ≡ false)) → x ∷ xs ≡ y ∷ ys
    by_cases rest (inl a) (inl b) = absurd (omega (arith, a, b))
    by_cases rest (inl a) (inr b) = absurd (let e = b.0 in omega (arith, a, e))
    by_cases rest (inr a) (inl b) = absurd (let e = a.0 in omega (arith, e, b))
    by_cases rest (inr a) (inr b) = cons-same x y xs ys a.0 (rest a.1 b.1)

itself : (a : List ℕ) → is_before a a ≡ false
itself [] = refl
itself (x ∷ xs) = same-not_before x x (is_before xs xs) refl (itself xs)

both-before : (x y : List ℕ) → is_before x y ≡ true → is_before y x ≡ true → ⊥
both-before [] [] h k = cc
both-before [] (y ∷ ys) h k = cc
both-before (x ∷ xs) [] h k = cc
both-before (x ∷ xs) (y ∷ ys) h k = by_tests (both-before xs ys) (nat_lt x y) refl (nat_eq x y) refl (nat_lt y x) refl (nat_eq y x) refl h k
  where
    by_tests : (is_before xs ys ≡ true → is_before ys xs ≡ true → ⊥) → (p : Bool) → nat_lt x y ≡ p → (q : Bool) → nat_eq x y ≡ q → (r : Bool) → nat_lt y x ≡ r → (s : Bool) → nat_eq y x ≡ s
        → (p || (q && is_before xs ys)) ≡ true → (r || (s && is_before ys xs)) ≡ true → ⊥
    by_tests rest true hp q hq true hr s hs f g = let a = ltb-true x y hp in let b = ltb-true y x hr in omega (arith, a, b)
    by_tests rest true hp q hq false hr true hs f g = let a = ltb-true x y hp in let e = eqb-true y x hs in omega (arith, a, e)
    by_tests rest true hp q hq false hr false hs f g = cc
    by_tests rest false hp true hq true hr s hs f g = let e = eqb-true x y hq in let b = ltb-true y x hr in omega (arith, e, b)
    by_tests rest false hp true hq false hr true hs f g = rest f g
    by_tests rest false hp true hq false hr false hs f g = cc
    by_tests rest false hp false hq r hr s hs f g = cc

-- one that is before another does not come after it
one-way : (a b : List ℕ) → is_before a b ≡ true → is_before b a ≡ false
one-way a b h = by_test (is_before b a) refl
  where
    by_test : (c : Bool) → is_before b a ≡ c → c ≡ false
    by_test true k = absurd (both-before a b h k)
    by_test false k = refl

-- of two different names one comes before the other alone
pub record AreApart (a b : List ℕ) : Type 0 where
  pub apart : a ≡ b → ⊥

-- ---- two nodes put in order one after another

put-swap : (a b : Node) (ns : List Node) → AreApart (name_at a) (name_at b) → put_in_order a (put_in_order b ns) ≡ put_in_order b (put_in_order a ns)
put-swap a b [] h = by_tests (is_before (name_at b) (name_at a)) refl (is_before (name_at a) (name_at b)) refl
  where
    by_tests : (p : Bool) → is_before (name_at b) (name_at a) ≡ p → (q : Bool) → is_before (name_at a) (name_at b) ≡ q
        → (if p then b ∷ a ∷ [] else a ∷ b ∷ []) ≡ (if q then a ∷ b ∷ [] else b ∷ a ∷ [])
    by_tests true hp true hq = absurd (not_both (is_before (name_at a) (name_at b)) hq (one-way (name_at b) (name_at a) hp))
    by_tests true hp false hq = refl
    by_tests false hp true hq = refl
    by_tests false hp false hq = absurd (h.apart (neither (name_at a) (name_at b) hq hp))
put-swap a b (o ∷ os) h = by_tests (put-swap a b os h) (is_before (name_at o) (name_at a)) refl (is_before (name_at o) (name_at b)) refl
  where
    goal : Bool → Bool → Type 0
    goal p q = put_in_order a (if q then o ∷ put_in_order b os else b ∷ o ∷ os) ≡ put_in_order b (if p then o ∷ put_in_order a os else a ∷ o ∷ os)

    later : (x y : Node) → is_before (name_at o) (name_at x) ≡ false → is_before (name_at o) (name_at y) ≡ true → is_before (name_at x) (name_at y) ≡ true
    later x y hx hy = by_test (is_before (name_at x) (name_at y)) refl
      where
        by_test : (c : Bool) → is_before (name_at x) (name_at y) ≡ c → c ≡ true
        by_test true k = refl
        by_test false k = absurd (not_both (is_before (name_at o) (name_at y)) hy (chain (name_at o) (name_at x) (name_at y) hx k))

    first : (p : Bool) → is_before (name_at b) (name_at a) ≡ p → (q : Bool) → is_before (name_at a) (name_at b) ≡ q
        → is_before (name_at o) (name_at a) ≡ false → is_before (name_at o) (name_at b) ≡ false
        → (if p then b ∷ put_in_order a (o ∷ os) else a ∷ b ∷ o ∷ os) ≡ (if q then a ∷ put_in_order b (o ∷ os) else b ∷ a ∷ o ∷ os)
    first true hp true hq ha hb = absurd (not_both (is_before (name_at a) (name_at b)) hq (one-way (name_at b) (name_at a) hp))
    first true hp false hq ha hb = rw ha refl
    first false hp true hq ha hb = rw hb refl
    first false hp false hq ha hb = absurd (h.apart (neither (name_at a) (name_at b) hq hp))

    by_tests : put_in_order a (put_in_order b os) ≡ put_in_order b (put_in_order a os) → (p : Bool) → is_before (name_at o) (name_at a) ≡ p → (q : Bool) → is_before (name_at o) (name_at b) ≡ q → goal p q
    by_tests rest true ha true hb = rw (ha, hb) (ap (λ l. o ∷ l) rest)
    by_tests rest true ha false hb = rw (later b a hb ha, ha, hb) refl
    by_tests rest false ha true hb = rw (ha, later a b ha hb, hb) refl
    by_tests rest false ha false hb = first (is_before (name_at b) (name_at a)) refl (is_before (name_at a) (name_at b)) refl ha hb

-- ---- nodes of one collection below the roots have different names

last-joined : (path : Segments) → is_root path ≡ false → path ≡ parent path ++ unwrap_or (last path) [] ∷ []
last-joined [] h = absurd (cc)
last-joined (s ∷ []) h = refl
last-joined (s ∷ t ∷ rest) h = cons-last s t rest (last-joined (t ∷ rest) (not-root t rest))
  where
    not-root : (x : List ℕ) (xs : Segments) → is_root (x ∷ xs) ≡ false
    not-root x xs = grind (arith, nat_tests)

    cons-last : (x y : List ℕ) (ys : Segments) → y ∷ ys ≡ parent (y ∷ ys) ++ unwrap_or (last (y ∷ ys)) [] ∷ [] → x ∷ y ∷ ys ≡ parent (x ∷ y ∷ ys) ++ unwrap_or (last (x ∷ y ∷ ys)) [] ∷ []
    cons-last x y ys e =
        let n : length (x ∷ y ∷ ys) - 1 ≡ suc (length (y ∷ ys) - 1) = omega arith in
        let front : parent (x ∷ y ∷ ys) ≡ x ∷ parent (y ∷ ys) = ap (λ k. take k (x ∷ y ∷ ys)) n in
        let end : last (x ∷ y ∷ ys) ≡ last (y ∷ ys) = ap (λ k. slice_get (x ∷ y ∷ ys) k) n in
        rw (front, end) (ap (λ l. x ∷ l) e)

place-joined : (u v : ℕ) (p q : Segments) → u ≡ v → p ≡ q → (let a : Place = record { user = u; path = p } in let b : Place = record { user = v; path = q } in a ≡ b)
place-joined u v p q e f = λ i. record { user = e i; path = f i }

lies_in : Place → Node → Bool
lies_in place n = same_place (parent_of n.place) place

names-apart : (place : Place) (a b : Node) → same_place (parent_of a.place) place ≡ true → same_place (parent_of b.place) place ≡ true
    → same_place a.place b.place ≡ false → is_root a.place.path ≡ false → is_root b.place.path ≡ false → AreApart (name_at a) (name_at b)
names-apart place a b ha hb other ra rb = record { apart = λ e. absurd (not_both (same_place a.place b.place) (same e) other) }
  where
    parents : parent_of a.place ≡ parent_of b.place
    parents = same_place-equal (parent_of a.place) place ha ∙ sym (same_place-equal (parent_of b.place) place hb)

    paths : name_at a ≡ name_at b → a.place.path ≡ b.place.path
    paths e =
        last-joined a.place.path ra ∙ ap (λ (p : Place). p.path ++ name_at a ∷ []) parents ∙ ap (λ name. parent b.place.path ++ name ∷ []) e
        ∙ sym (last-joined b.place.path rb)

    same : name_at a ≡ name_at b → same_place a.place b.place ≡ true
    same e = ap (λ p. same_place a.place p) (sym (place-joined a.place.user b.place.user a.place.path b.place.path (ap (λ (p : Place). p.user) parents) (paths e))) ∙ same_place-refl a.place

-- ---- what lies in a collection

abbrev put_where : Place → Node → List Node → List Node
put_where place n ns = if same_place (parent_of n.place) place then put_in_order n ns else ns

children-gathered : (place : Place) → IsGathered (λ ns. children ns place) (put_where place)
children-gathered place = record {
  cons = λ n ns. one n ns (same_place (parent_of n.place) place);
  swap = λ a b x other ra rb. two a b x other ra rb (same_place (parent_of a.place) place) refl (same_place (parent_of b.place) place) refl;
}
  where
    one : (n : Node) (ns : List Node) (c : Bool)
        → in_order (if c then n ∷ filter (λ (m : Node). same_place (parent_of m.place) place) ns else filter (λ (m : Node). same_place (parent_of m.place) place) ns)
        ≡ (if c then put_in_order n (in_order (filter (λ (m : Node). same_place (parent_of m.place) place) ns)) else in_order (filter (λ (m : Node). same_place (parent_of m.place) place) ns))
    one n ns true = refl
    one n ns false = refl

    two : (a b : Node) (x : List Node) → same_place a.place b.place ≡ false → is_root a.place.path ≡ false → is_root b.place.path ≡ false
        → (p : Bool) → same_place (parent_of a.place) place ≡ p → (q : Bool) → same_place (parent_of b.place) place ≡ q
        → (if p then put_in_order a (if q then put_in_order b x else x) else (if q then put_in_order b x else x))
        ≡ (if q then put_in_order b (if p then put_in_order a x else x) else (if p then put_in_order a x else x))
    two a b x other ra rb true hp true hq = put-swap a b x (names-apart place a b hp hq other ra rb)
    two a b x other ra rb true hp false hq = refl
    two a b x other ra rb false hp true hq = refl
    two a b x other ra rb false hp false hq = refl

pub children-alike : (place : Place) (ns others : List Node) → StandAlike ns others → children ns place ≡ children others place
children-alike place ns others h = gathered-alike (λ l. children l place) (put_where place) (children-gathered place) ns others h
