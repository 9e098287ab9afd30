use Rattle.std.proofs.Common.{◌≡◌, ℕ, zero, suc, ◌+◌, ◌<◌, ◌≤◌, List, [], ◌∷◌, length, get_or, Bool, true, false, ◌&&◌, ◌||◌, refl, sym, ap, ◌∙◌, arith, ◌⊎◌, inl, inr}
use Rattle.std.specs.Prelude.{Option, Some, None, nat_eq, nat_lt, option_map, if◌then◌else◌}
use Rattle.std.specs.List.{list_any}
use Rattle.std.proofs.lemmas.Bool.Decides.{nat_tests}
use Rattle.ocm_entry.specs.declared.rows.Node.{Node}
use Rattle.ocm_tree.specs.declared.orders.NumberedNode.{NumberedNode}
use Rattle.ocm_tree.specs.Orders.{numbered, is_node}
use Rattle.ocm_tree.specs.Tables.{Slots}
use Rattle.ocm_tree.specs.Standings.{first_in, passes_at, sooner, least_among, standing_of}
use Rattle.ocm_rules.proofs.Lists.{not_both}
use Rattle.ocm_tree.proofs.NumberCounts.{number-there}

-- whether a node has this index
abbrev pub has : ℕ → NumberedNode → Bool
has i node = nat_eq node.index i

-- ---- the least index

sooner-some : (first : Option ℕ) (i : ℕ) → sooner first i ≡ None → ⊥
sooner-some None i h = cc
sooner-some (Some j) i h = by_test (nat_lt i j) h
  where
    by_test : (b : Bool) → (if b then Some i else Some j) ≡ None → ⊥
    by_test true g = cc
    by_test false g = cc

none-one : (test : ℕ → Bool) (i j : ℕ) (rest : Bool) → test i ≡ false → (rest ≡ true → test j ≡ false) → (nat_eq i j || rest) ≡ true → test j ≡ false
none-one test i j rest fails later h = by_test (nat_eq i j) refl h
  where
    by_test : (b : Bool) → nat_eq i j ≡ b → (b || rest) ≡ true → test j ≡ false
    by_test true e g = let same : i ≡ j = grind (arith, nat_tests) in ap test (sym same) ∙ fails
    by_test false e g = later g

-- where there is no least index, there was none and no other passes
least-none : (test : ℕ → Bool) (xs : List NumberedNode) (first : Option ℕ) → least_among test xs first ≡ None → (first ≡ None) × ((j : ℕ) → list_any (has j) xs ≡ true → test j ≡ false)
least-none test [] first h = (h, λ j g. absurd (cc))
least-none test (x ∷ xs) first h = by_test (λ other. least-none test xs other) (test x.index) refl h
  where
    by_test : ((other : Option ℕ) → least_among test xs other ≡ None → (other ≡ None) × ((j : ℕ) → list_any (has j) xs ≡ true → test j ≡ false)) → (b : Bool) → test x.index ≡ b →
        least_among test xs (if b then sooner first x.index else first) ≡ None → (first ≡ None) × ((j : ℕ) → list_any (has j) (x ∷ xs) ≡ true → test j ≡ false)
    by_test rest true e g = absurd (sooner-some first x.index (rest (sooner first x.index) g).0)
    by_test rest false e g = ((rest first g).0, λ j k. none-one test x.index j (list_any (has j) xs) e ((rest first g).1 j) k)

-- what a least index is: the first one or that of a node that passes, and none that passes is less
pub record IsLeast (test : ℕ → Bool) (xs : List NumberedNode) (first : Option ℕ) (i : ℕ) : Type 0 where
  pub one : (first ≡ Some i) ⊎ ((list_any (has i) xs ≡ true) × (test i ≡ true))
  pub before_first : (j : ℕ) → first ≡ Some j → i ≤ j
  pub before_others : (j : ℕ) → list_any (has j) xs ≡ true → test j ≡ true → i ≤ j

own-index : (i : ℕ) (rest : Bool) → (nat_eq i i || rest) ≡ true
own-index i rest = let same : nat_eq i i ≡ true = grind (arith, nat_tests) in rw same refl

later-index : (b rest : Bool) → rest ≡ true → (b || rest) ≡ true
later-index true rest h = refl
later-index false rest h = h

one-or-other : (i j : ℕ) (rest : Bool) (C : Type 0) → (nat_eq i j || rest) ≡ true → (i ≡ j → C) → (rest ≡ true → C) → C
one-or-other i j rest C h here later = by_test (nat_eq i j) refl h
  where
    by_test : (b : Bool) → nat_eq i j ≡ b → (b || rest) ≡ true → C
    by_test true e g = here (grind (arith, nat_tests))
    by_test false e g = later g

least-passed : (test : ℕ → Bool) (x : NumberedNode) (xs : List NumberedNode) (first : Option ℕ) (i : ℕ) → test x.index ≡ true → IsLeast test xs (sooner first x.index) i → IsLeast test (x ∷ xs) first i
least-passed test x xs None i passes h = record {
  one = from_one h.one;
  before_first = λ j e. absurd (cc);
  before_others = λ j g t. one-or-other x.index j (list_any (has j) xs) (i ≤ j) g (λ e. h.before_first j (ap Some e)) (λ later. h.before_others j later t);
}
  where
    from_one : (sooner None x.index ≡ Some i) ⊎ ((list_any (has i) xs ≡ true) × (test i ≡ true)) → ((let none : Option ℕ = None in none) ≡ Some i) ⊎ ((list_any (has i) (x ∷ xs) ≡ true) × (test i ≡ true))
    from_one (inl e) = let same : x.index ≡ i = cc in inr (ap (λ k. nat_eq x.index k || list_any (has k) xs) (sym same) ∙ own-index x.index (list_any (has x.index) xs), ap test (sym same) ∙ passes)
    from_one (inr g) = inr (later-index (nat_eq x.index i) (list_any (has i) xs) g.0, g.1)
least-passed test x xs (Some f) i passes h = by_test (nat_lt x.index f) refl h
  where
    by_test : (b : Bool) → nat_lt x.index f ≡ b → IsLeast test xs (if b then Some x.index else Some f) i → IsLeast test (x ∷ xs) (Some f) i
    by_test true e k = record {
      one = from_one k.one;
      before_first = λ j g. let least = k.before_first x.index refl in let same : f ≡ j = cc in grind (arith, nat_tests, least, same, e);
      before_others = λ j g t. one-or-other x.index j (list_any (has j) xs) (i ≤ j) g (λ same. k.before_first j (ap Some same)) (λ later. k.before_others j later t);
    }
      where
        from_one : ((let some : Option ℕ = Some x.index in some) ≡ Some i) ⊎ ((list_any (has i) xs ≡ true) × (test i ≡ true)) → ((let some : Option ℕ = Some f in some) ≡ Some i) ⊎ ((list_any (has i) (x ∷ xs) ≡ true) × (test i ≡ true))
        from_one (inl g) = let same : x.index ≡ i = cc in inr (ap (λ k. nat_eq x.index k || list_any (has k) xs) (sym same) ∙ own-index x.index (list_any (has x.index) xs), ap test (sym same) ∙ passes)
        from_one (inr g) = inr (later-index (nat_eq x.index i) (list_any (has i) xs) g.0, g.1)
    by_test false e k = record {
      one = from_one k.one;
      before_first = k.before_first;
      before_others = λ j g t. one-or-other x.index j (list_any (has j) xs) (i ≤ j) g (λ same. let least = k.before_first f refl in grind (arith, nat_tests, least, same, e)) (λ later. k.before_others j later t);
    }
      where
        from_one : ((let some : Option ℕ = Some f in some) ≡ Some i) ⊎ ((list_any (has i) xs ≡ true) × (test i ≡ true)) → ((let some : Option ℕ = Some f in some) ≡ Some i) ⊎ ((list_any (has i) (x ∷ xs) ≡ true) × (test i ≡ true))
        from_one (inl g) = inl g
        from_one (inr g) = inr (later-index (nat_eq x.index i) (list_any (has i) xs) g.0, g.1)

least-failed : (test : ℕ → Bool) (x : NumberedNode) (xs : List NumberedNode) (first : Option ℕ) (i : ℕ) → test x.index ≡ false → IsLeast test xs first i → IsLeast test (x ∷ xs) first i
least-failed test x xs first i fails h = record {
  one = from_one h.one;
  before_first = h.before_first;
  before_others = λ j g t. one-or-other x.index j (list_any (has j) xs) (i ≤ j) g (λ same. absurd (not_both (test j) t (ap test (sym same) ∙ fails))) (λ later. h.before_others j later t);
}
  where
    from_one : (first ≡ Some i) ⊎ ((list_any (has i) xs ≡ true) × (test i ≡ true)) → (first ≡ Some i) ⊎ ((list_any (has i) (x ∷ xs) ≡ true) × (test i ≡ true))
    from_one (inl g) = inl g
    from_one (inr g) = inr (later-index (nat_eq x.index i) (list_any (has i) xs) g.0, g.1)

least-some : (test : ℕ → Bool) (xs : List NumberedNode) (first : Option ℕ) (i : ℕ) → least_among test xs first ≡ Some i → IsLeast test xs first i
least-some test [] first i h = record { one = inl h; before_first = λ j e. let same : Some i ≡ Some j = sym h ∙ e in let equal : i ≡ j = cc in omega (arith, equal); before_others = λ j g t. absurd (cc) }
least-some test (x ∷ xs) first i h = by_test (λ other. least-some test xs other i) (test x.index) refl h
  where
    by_test : ((other : Option ℕ) → least_among test xs other ≡ Some i → IsLeast test xs other i) → (b : Bool) → test x.index ≡ b →
        least_among test xs (if b then sooner first x.index else first) ≡ Some i → IsLeast test (x ∷ xs) first i
    by_test rest true e g = least-passed test x xs first i e (rest (sooner first x.index) g)
    by_test rest false e g = least-failed test x xs first i e (rest first g)

-- ---- the first node

first_in-none : (test : Option Node → Bool) (ns : Slots) (ms : List ℕ) (k : ℕ) → length ns ≡ length ms → ((j : ℕ) → j < length ms → get_or ms j 0 ≡ k → passes_at test ns j ≡ false) → first_in test ns ms k ≡ None
first_in-none test [] ms k same h = refl
first_in-none test (n ∷ ns) [] k same h = refl
first_in-none test (n ∷ ns) (m ∷ ms) k same h =
    by_tests (first_in-none test ns ms k (omega (arith, same)) (λ j l e. h (suc j) (omega (arith, l)) e)) (nat_eq m k) refl (test n) refl
  where
    by_tests : first_in test ns ms k ≡ None → (b : Bool) → nat_eq m k ≡ b → (c : Bool) → test n ≡ c → (if (b && c) then option_map (λ (m : Node). m.standing) n else first_in test ns ms k) ≡ None
    by_tests rest true e true f = absurd (not_both (test n) f (h 0 (omega arith) (grind (arith, nat_tests))))
    by_tests rest true e false f = rest
    by_tests rest false e c f = rest

first_in-some : (test : Option Node → Bool) (ns : Slots) (ms : List ℕ) (k i : ℕ) → length ns ≡ length ms → i < length ms → get_or ms i 0 ≡ k → passes_at test ns i ≡ true →
    ((j : ℕ) → j < i → get_or ms j 0 ≡ k → passes_at test ns j ≡ false) → first_in test ns ms k ≡ option_map (λ (m : Node). m.standing) (get_or ns i None)
first_in-some test [] ms k i same l e p h = absurd (omega arith)
first_in-some test (n ∷ ns) [] k i same l e p h = absurd (omega arith)
first_in-some test (n ∷ ns) (m ∷ ms) k zero same l e p h = let is : nat_eq m k ≡ true = grind (arith, nat_tests) in rw (is, p) refl
first_in-some test (n ∷ ns) (m ∷ ms) k (suc i) same l e p h =
    by_tests (first_in-some test ns ms k i (omega (arith, same)) (omega (arith, l)) e p (λ j b g. h (suc j) (omega (arith, b)) g)) (nat_eq m k) refl (test n) refl
  where
    by_tests : first_in test ns ms k ≡ option_map (λ (m : Node). m.standing) (get_or ns i None) → (b : Bool) → nat_eq m k ≡ b → (c : Bool) → test n ≡ c → (if (b && c) then option_map (λ (m : Node). m.standing) n else first_in test ns ms k) ≡ option_map (λ (m : Node). m.standing) (get_or ns i None)
    by_tests rest true e true f = absurd (not_both (test n) f (h 0 (omega arith) (grind (arith, nat_tests))))
    by_tests rest true e false f = rest
    by_tests rest false e c f = rest

-- a node with this number and index has this number where it is
number-index : (k j from i : ℕ) (ms : List ℕ) → j ≡ from + i → list_any (is_node k j) (numbered from ms) ≡ true → (i < length ms) × (get_or ms i 0 ≡ k)
number-index k j from i [] e h = absurd (cc)
number-index k j from zero (m ∷ ms) e h = by_test (nat_eq m k) refl (nat_eq from j) refl h
  where
    past : (a : ℕ) (ns : List ℕ) → j < a → list_any (is_node k j) (numbered a ns) ≡ true → ⊥
    past a [] l g = cc
    past a (n ∷ ns) l g = rest_of (nat_eq n k) (nat_eq a j) refl (λ more. past (a + 1) ns (omega (arith, l)) more) g
      where
        rest_of : (b c : Bool) → nat_eq a j ≡ c → (list_any (is_node k j) (numbered (a + 1) ns) ≡ true → ⊥) → ((b && c) || list_any (is_node k j) (numbered (a + 1) ns)) ≡ true → ⊥
        rest_of true true q more f = grind (arith, nat_tests)
        rest_of true false q more f = more f
        rest_of false c q more f = more f

    by_test : (b : Bool) → nat_eq m k ≡ b → (c : Bool) → nat_eq from j ≡ c → ((b && c) || list_any (is_node k j) (numbered (from + 1) ms)) ≡ true → (0 < length (m ∷ ms)) × (m ≡ k)
    by_test true q c r g = (omega arith, grind (arith, nat_tests))
    by_test false q c r g = absurd (past (from + 1) ms (omega arith) g)
number-index k j from (suc i) (m ∷ ms) e h = by_test (λ more. number-index k j (from + 1) i ms (omega arith) more) (nat_eq m k) (nat_eq from j) refl h
  where
    by_test : (list_any (is_node k j) (numbered (from + 1) ms) ≡ true → (i < length ms) × (get_or ms i 0 ≡ k)) → (b c : Bool) → nat_eq from j ≡ c → ((b && c) || list_any (is_node k j) (numbered (from + 1) ms)) ≡ true →
        (suc i < length (m ∷ ms)) × (get_or ms i 0 ≡ k)
    by_test rest true true q g = absurd (grind (arith, nat_tests))
    by_test rest true false q g = let r = rest g in (omega (arith, r.0), r.1)
    by_test rest false c q g = let r = rest g in (omega (arith, r.0), r.1)

-- what is found of the nodes with a number
pub record AreOf (ms : List ℕ) (k : ℕ) (xs : List NumberedNode) : Type 0 where
  pub found : (i : ℕ) → list_any (has i) xs ≡ list_any (is_node k i) (numbered 0 ms)

there : (ms : List ℕ) (k : ℕ) (xs : List NumberedNode) → AreOf ms k xs → (j : ℕ) → j < length ms → get_or ms j 0 ≡ k → list_any (has j) xs ≡ true
there ms k xs of j l e = of.found j ∙ (ap (λ n. list_any (is_node n j) (numbered 0 ms)) (sym e) ∙ number-there 0 j j ms l (omega arith))

-- where no index is found, nothing stands by the entry
pub least-first_none : (test : Option Node → Bool) (ns : Slots) (ms : List ℕ) (k : ℕ) (xs : List NumberedNode) → length ns ≡ length ms → AreOf ms k xs → least_among (passes_at test ns) xs None ≡ None → first_in test ns ms k ≡ None
least-first_none test ns ms k xs same of h =
    first_in-none test ns ms k same (λ j l e. (least-none (passes_at test ns) xs None h).1 j (there ms k xs of j l e))

-- the least index is that of the node that stands by the entry
pub least-first_some : (test : Option Node → Bool) (ns : Slots) (ms : List ℕ) (k i : ℕ) (xs : List NumberedNode) → length ns ≡ length ms → AreOf ms k xs → least_among (passes_at test ns) xs None ≡ Some i →
    first_in test ns ms k ≡ option_map (λ (m : Node). m.standing) (get_or ns i None)
least-first_some test ns ms k i xs same of h =
    let least = least-some (passes_at test ns) xs None i h in
    from_one (least.one) least.before_others
  where
    from_one : ((let none : Option ℕ = None in none) ≡ Some i) ⊎ ((list_any (has i) xs ≡ true) × (passes_at test ns i ≡ true)) → ((j : ℕ) → list_any (has j) xs ≡ true → passes_at test ns j ≡ true → i ≤ j) →
        first_in test ns ms k ≡ option_map (λ (m : Node). m.standing) (get_or ns i None)
    from_one (inl e) others = absurd (cc)
    from_one (inr g) others =
        let at = number-index k i 0 i ms (omega arith) (sym (of.found i) ∙ g.0) in
        first_in-some test ns ms k i same at.0 at.1 g.1 (λ j l e. fails j l (there ms k xs of j (omega (arith, l, at.0)) e) (passes_at test ns j) refl)
      where
        fails : (j : ℕ) → j < i → list_any (has j) xs ≡ true → (b : Bool) → passes_at test ns j ≡ b → b ≡ false
        fails j l f true p = absurd (omega (arith, l, others j f p))
        fails j l f false p = refl

-- what stands at the least index stands by the entry
pub least-first : (test : Option Node → Bool) (ns : Slots) (ms : List ℕ) (k : ℕ) (xs : List NumberedNode) → length ns ≡ length ms → AreOf ms k xs →
    standing_of ns (least_among (passes_at test ns) xs None) ≡ first_in test ns ms k
least-first test ns ms k xs same of = by_index (least_among (passes_at test ns) xs None) refl
  where
    by_index : (o : Option ℕ) → least_among (passes_at test ns) xs None ≡ o → standing_of ns o ≡ first_in test ns ms k
    by_index None e = sym (least-first_none test ns ms k xs same of e)
    by_index (Some i) e = sym (least-first_some test ns ms k i xs same of e)
