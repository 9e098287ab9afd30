use Rattle.std.proofs.Common.{◌≡◌, ◌≢◌, ℕ, ◌<◌, ◌≤◌, Bool, true, false, cond, Option, Some, None, refl, sym, ap, subst, ◌∙◌, arith, ◌⊎◌, ⊎_elim, inl, inr}
use Rattle.std.specs.Prelude.{nat_eq}
use Rattle.std.proofs.lemmas.Bool.{false≢true}
use Rattle.std.proofs.lemmas.Bool.Decides.{nat_tests}
use Rattle.ocm_outgoing.specs.declared.rows.Thread.{Thread}
use Rattle.ocm_outgoing.specs.Threads.{IsLink, IsChain, IsFirst, IsReached, IsFound, ThreadIs, first_or, moved}

link-same : (about more : ℕ → Bool) (last i j : ℕ) → ((k : ℕ) → more k ≡ about k) → IsLink about last i j → IsLink more last i j
link-same about more last i j e link = record {
  stops = link.stops;
  after = link.after;
  same = λ n. e j ∙ link.same n;
  between = λ n k low high. e k ∙ link.between n k low high;
}

-- where all that is read stays, the thread stays
pub ThreadIs-same : (about more waiting waits : ℕ → Bool) (next nexts : ℕ → ℕ) → ((k : ℕ) → more k ≡ about k) → ((k : ℕ) → waits k ≡ waiting k) → ((k : ℕ) → about k ≡ true → nexts k ≡ next k) → (thread : Option Thread) → ThreadIs about waiting next thread → ThreadIs more waits nexts thread
ThreadIs-same about more waiting waits next nexts a w n None idle = λ k. w k ∙ idle k
ThreadIs-same about more waiting waits next nexts a w n (Some t) is = (
  record {
    last = a t.last ∙ is.0.last;
    after = λ k h. a k ∙ is.0.after k h;
    links = λ i h there.
        let was : about i ≡ true = sym (a i) ∙ there in
        subst (IsLink more t.last i) (sym (n i was)) (link-same about more t.last i (next i) a (is.0.links i h was));
  },
  record {
    waits = w t.first ∙ is.1.waits;
    before = λ k h. w k ∙ is.1.before k h;
  },
)

-- no link follows the last
link-last : (about : ℕ → Bool) (last i j : ℕ) → i ≡ last → j ≡ 0 → IsLink about last i j
link-last about last i j e zero_is = record {
  stops = λ z. e;
  after = λ n. absurd (n zero_is);
  same = λ n. absurd (n zero_is);
  between = λ n k low high. absurd (n zero_is);
}

cond-true : (b c : Bool) → c ≡ true → cond b true c ≡ true
cond-true true c e = refl
cond-true false c e = e

cond-other : (b c : Bool) → b ≡ false → cond b true c ≡ c
cond-other true c e = absurd (cc)
cond-other false c e = refl

cond-same : (b c : Bool) → b ≡ true → cond b true c ≡ true
cond-same true c e = refl
cond-same false c e = absurd (cc)

nat_eq-cases : (k n : ℕ) → (k ≡ n) ⊎ (nat_eq k n ≡ false)
nat_eq-cases k n = grind (arith, nat_tests)

-- what is as before, but for a new one of number n
abbrev pub Grows : ℕ → (ℕ → Bool) → (ℕ → Bool) → Type 0
Grows n old new = (k : ℕ) → new k ≡ cond (nat_eq k n) true (old k)

grown : (n : ℕ) (old new : ℕ → Bool) (k : ℕ) → Grows n old new → old k ≡ true → new k ≡ true
grown n old new k g e = g k ∙ cond-true (nat_eq k n) (old k) e

not-n : (k n : ℕ) → k ≢ n → nat_eq k n ≡ false
not-n k n h = grind (arith, nat_tests)

same-n : (n : ℕ) → nat_eq n n ≡ true
same-n n = grind (arith, nat_tests)

kept : (n : ℕ) (old new : ℕ → Bool) (k : ℕ) → Grows n old new → k ≢ n → new k ≡ old k
kept n old new k g h = g k ∙ cond-other (nat_eq k n) (old k) (not-n k n h)

newest : (n : ℕ) (old new : ℕ → Bool) → Grows n old new → new n ≡ true
newest n old new g = g n ∙ cond-same (nat_eq n n) (old n) (same-n n)

below-n : (n : ℕ) (about : ℕ → Bool) → ((k : ℕ) → n ≤ k → about k ≡ false) → (k : ℕ) → about k ≡ true → k < n
below-n n about out k e = ⊎_elim (λ h. h) (λ h. absurd (false≢true (sym (out k h) ∙ e))) (cases k n)
  where
    cases : (k n : ℕ) → (k < n) ⊎ (n ≤ k)
    cases k n = grind (arith, nat_tests)

one-of : (n : ℕ) (old new : ℕ → Bool) (k : ℕ) → Grows n old new → new k ≡ true → (k ≡ n) ⊎ (old k ≡ true)
one-of n old new k g e = ⊎_elim (λ h. inl h) (λ h. inr (sym (g k ∙ cond-other (nat_eq k n) (old k) h) ∙ e)) (nat_eq-cases k n)

-- a thread goes on with a new last
abbrev pub GoesOn : ℕ → (ℕ → ℕ) → (ℕ → ℕ) → ℕ → Type 0
GoesOn n next nexts last = (nexts last ≡ n) × ((k : ℕ) → k ≢ last → k ≢ n → nexts k ≡ next k)

link-on : (n : ℕ) (about more : ℕ → Bool) (next nexts : ℕ → ℕ) (t : Thread) (i : ℕ) → Grows n about more → ((k : ℕ) → n ≤ k → about k ≡ false) → nexts n ≡ 0 → GoesOn n next nexts t.last → IsChain about next t → t.first ≤ i → (i ≡ n) ⊎ (about i ≡ true) → IsLink more n i (nexts i)
link-on n about more next nexts t i g out ends on chain low (inl is) = link-last more n i (nexts i) is (ap nexts is ∙ ends)
link-on n about more next nexts t i g out ends on chain low (inr was) = ⊎_elim at_last before (cases i t.last)
  where
    cases : (i last : ℕ) → (i ≡ last) ⊎ (i ≢ last)
    cases i last = grind (arith, nat_tests)

    within : i < n
    within = below-n n about out i was

    at_last : i ≡ t.last → IsLink more n i (nexts i)
    at_last e =
        let j : nexts i ≡ n = ap nexts e ∙ on.0 in
        record {
          stops = λ z. absurd (omega (arith, within, z, j));
          after = λ _. omega (arith, within, j);
          same = λ _. ap more j ∙ newest n about more g;
          between = λ _ k lower higher. kept n about more k g (omega (arith, higher, j)) ∙ chain.after k (omega (arith, lower, e));
        }

    before : i ≢ t.last → IsLink more n i (nexts i)
    before e =
        let ne : i ≢ n = omega (arith, within) in
        let j : nexts i ≡ next i = on.1 i e ne in
        let link = chain.links i low was in
        let linked : IsLink more n i (next i) = record {
          stops = λ z. absurd (e (link.stops z));
          after = link.after;
          same = λ h. grown n about more (next i) g (link.same h);
          between = λ h k lower higher. kept n about more k g (omega (arith, higher, below-n n about out (next i) (link.same h))) ∙ link.between h k lower higher;
        } in
        subst (IsLink more n i) (sym j) linked

-- a new last about the same
pub ThreadIs-push : (n : ℕ) (about more waiting waits : ℕ → Bool) (next nexts : ℕ → ℕ) → Grows n about more → Grows n waiting waits → ((k : ℕ) → n ≤ k → about k ≡ false) → ((k : ℕ) → about k ≡ false → waiting k ≡ false) → nexts n ≡ 0 → (older : Option Thread) → ((t : Thread) → older ≡ Some t → GoesOn n next nexts t.last) → ThreadIs about waiting next older → ThreadIs more waits nexts (Some (record { first = first_or n older; last = n }))
ThreadIs-push n about more waiting waits next nexts g w out fewer ends None on idle = (
  record {
    last = newest n about more g;
    after = λ k h. kept n about more k g (omega (arith, h)) ∙ out k (omega (arith, h));
    links = λ i h there. link-last more n i (nexts i) (first-n i h there) (ap nexts (first-n i h there) ∙ ends);
  },
  record {
    waits = newest n waiting waits w;
    before = λ k h. kept n waiting waits k w (omega (arith, h)) ∙ idle k;
  },
)
  where
    first-n : (i : ℕ) → n ≤ i → more i ≡ true → i ≡ n
    first-n i h there = ⊎_elim (λ e. e) (λ was. absurd (false≢true (sym (out i h) ∙ was))) (one-of n about more i g there)
ThreadIs-push n about more waiting waits next nexts g w out fewer ends (Some t) on is = (
  record {
    last = newest n about more g;
    after = λ k h. kept n about more k g (omega (arith, h)) ∙ out k (omega (arith, h));
    links = λ i h there. link-on n about more next nexts t i g out ends (on t refl) is.0 h (one-of n about more i g there);
  },
  record {
    waits = grown n waiting waits t.first w is.1.waits;
    before = λ k h. kept n waiting waits k w (omega (arith, h, first-below)) ∙ is.1.before k h;
  },
)
  where
    first-below : t.first < n
    first-below = below-n n waiting (λ k h. fewer k (out k h)) t.first is.1.waits

-- what a walk reaches from a number up to which none waits
pub IsReached-step : (about waiting : ℕ → Bool) (next : ℕ → ℕ) (t : Thread) (i : ℕ) → IsChain about next t → ((k : ℕ) → about k ≡ false → waiting k ≡ false) → t.first ≤ i → about i ≡ true → ((k : ℕ) → k ≤ i → waiting k ≡ false) → IsReached about waiting t.first (next i)
IsReached-step about waiting next t i chain fewer low there none =
    let link = chain.links i low there in
    record {
      past = λ z k. ⊎_elim (none k) (λ h. fewer k (chain.after k (omega (arith, h, link.stops z)))) (cases k i);
      beyond = λ h. omega (arith, low, link.after h);
      same = link.same;
      before = λ h k high. ⊎_elim (none k) (λ above. fewer k (link.between h k above high)) (cases k i);
    }
  where
    cases : (k i : ℕ) → (k ≤ i) ⊎ (i < k)
    cases k i = grind (arith, nat_tests)

-- a thread that begins at what a walk found
pub ThreadIs-moved : (about waiting : ℕ → Bool) (next : ℕ → ℕ) (t : Thread) (found : Option ℕ) → IsChain about next t → IsFound waiting t.first found → ThreadIs about waiting next (moved found (Some t))
ThreadIs-moved about waiting next t None chain idle = idle
ThreadIs-moved about waiting next t (Some j) chain is = (
  record {
    last = chain.last;
    after = chain.after;
    links = λ i h there. chain.links i (omega (arith, h, is.1)) there;
  },
  is.0,
)

-- the first still waits where another was settled
pub IsFirst-kept : (waiting waits : ℕ → Bool) (first m : ℕ) → ((k : ℕ) → waits k ≡ cond (nat_eq m k) false (waiting k)) → first ≢ m → IsFirst waiting first → IsFirst waits first
IsFirst-kept waiting waits first m w other is = record {
  waits = w first ∙ (ap (λ b. cond b false (waiting first)) (not-same m first other) ∙ is.waits);
  before = λ k h. w k ∙ (ap (λ b. cond (nat_eq m k) false b) (is.before k h) ∙ never (nat_eq m k));
}
  where
    not-same : (m first : ℕ) → first ≢ m → nat_eq m first ≡ false
    not-same m first h = grind (arith, nat_tests)

    never : (b : Bool) → cond b false false ≡ false
    never true = refl
    never false = refl
