use Rattle.std.proofs.Common.{◌≡◌, ℕ, List, Bool, true, false, Option, Some, None, refl, sym, ap, subst, option_map, option_and_then, if◌then◌else◌}
use Rattle.std.specs.Prelude.{IsSome}
use Rattle.std.specs.Option.{option_map_or}
use Rattle.std.proofs.lemmas.Option.{some_pair_parts}
use Rattle.ocm_entry.specs.declared.rows.Share.{Share}
use Rattle.ocm_rules.specs.Numbers.{at_number}
use Rattle.ocm_rules.specs.Shares.{named, has_secret}
use Rattle.ocm_rules.specs.Views.{View}
use Rattle.ocm_rules.specs.Answers.{numbered_share, share_with, parent_row, is_child_of}

-- nothing is made of nothing
pub mapped-none : {A B : Type 0} (f : A → B) (o : Option A) → option_map f o ≡ None → o ≡ None
mapped-none f None e = refl
mapped-none f (Some x) e = absurd (cc)

pair-at : {X : Type 0} (i n : ℕ) (x : X) (o : Option X) → option_map {U = ℕ × X} (λ (y : X). (i, y)) o ≡ Some (n, x) → (i ≡ n) × (o ≡ Some x)
pair-at i n x None e = absurd (cc)
pair-at i n x (Some y) e = let parts = some_pair_parts i n y x e in (parts.0, ap (λ z. Some z) parts.1)

-- the number and the row of the share that is named
pub numbered-at : (v : View) (o : Option ℕ) (n : ℕ) (share : Share) → option_and_then (numbered_share v) o ≡ Some (n, share) → (o ≡ Some n) × (at_number v.shares n ≡ Some share)
numbered-at v None n share e = absurd (cc)
numbered-at v (Some i) n share e =
    let found = pair-at i n share (at_number v.shares i) e in
    (ap (λ k. Some k) found.0, subst (λ k. at_number v.shares k ≡ Some share) found.0 found.1)

first-some : {X : Type 0} (i n : ℕ) (o : Option X) → option_map (λ (p : ℕ × X). p.0) (option_map {U = ℕ × X} (λ (y : X). (i, y)) o) ≡ Some n → (x : X) × (i ≡ n) × (o ≡ Some x)
first-some i n None e = absurd (cc)
first-some i n (Some x) e = let same : i ≡ n = cc in (x, same, refl)

-- the row of the share that is named by this number
pub named-some : (v : View) (o : Option ℕ) (n : ℕ) → option_map (λ (p : ℕ × Share). p.0) (option_and_then (numbered_share v) o) ≡ Some n → (share : Share) × (o ≡ Some n) × (at_number v.shares n ≡ Some share)
named-some v None n e = absurd (cc)
named-some v (Some i) n e =
    let found = first-some i n (at_number v.shares i) e in
    (found.0, ap (λ k. Some k) found.1, subst (λ k. at_number v.shares k ≡ Some found.0) found.1 found.2)

-- where no share is named there is no row
pub named-none : (v : View) (o : Option ℕ) → option_map (λ (p : ℕ × Share). p.0) (option_and_then (numbered_share v) o) ≡ None → option_and_then (at_number v.shares) o ≡ None
named-none v None e = refl
named-none v (Some i) e = mapped-none {B = ℕ × Share} (λ (share : Share). (i, share)) (at_number v.shares i) (mapped-none (λ (p : ℕ × Share). p.0) (option_map {U = ℕ × Share} (λ (share : Share). (i, share)) (at_number v.shares i)) e)

kept-some : {X : Type 0} (test : X → Bool) (o : Option (ℕ × X)) (n : ℕ) → option_map (λ (p : ℕ × X). p.0) (option_and_then (λ (p : ℕ × X). if test p.1 then Some p else None) o) ≡ Some n
    → (x : X) × (option_and_then (λ (p : ℕ × X). if test p.1 then Some p else None) o ≡ Some (n, x)) × (o ≡ Some (n, x))
kept-some test None n e = absurd (cc)
kept-some {X} test (Some p) n e = by_test (test p.1) e
  where
    by_test : (b : Bool) → option_map (λ (q : ℕ × X). q.0) (if b then Some p else None) ≡ Some n → (x : X) × ((if b then Some p else None) ≡ Some (n, x)) × (Some p ≡ Some (n, x))
    by_test true h =
        let same : p.0 ≡ n = cc in
        let pair : Some p ≡ Some (n, p.1) = ap (λ k. Some (k, p.1)) same in
        (p.1, pair, pair)
    by_test false h = absurd (cc)

-- the share that is named, with its secret
pub shared-some : (v : View) (id secret : List ℕ) (n : ℕ) → Some n ≡ option_map (λ (p : ℕ × Share). p.0) (share_with v id secret)
    → (share : Share) × (share_with v id secret ≡ Some (n, share)) × (named id ≡ Some n) × (at_number v.shares n ≡ Some share)
shared-some v id secret n e =
    let kept = kept-some (has_secret secret) (option_and_then (numbered_share v) (named id)) n (sym e) in
    let at = numbered-at v (named id) n kept.0 kept.2 in
    (kept.0, kept.1, at.0, at.1)

-- no share has this mark and this secret
pub shared-none : (v : View) (id secret : List ℕ) → None ≡ option_map (λ (p : ℕ × Share). p.0) (share_with v id secret) → share_with v id secret ≡ None
shared-none v id secret e = mapped-none (λ (p : ℕ × Share). p.0) (share_with v id secret) (sym e)

child-there : (v : View) (test : Share → Bool) (i : ℕ) (o : Option Share) → option_map_or test (option_and_then (parent_row v) o) false ≡ true → IsSome (option_map (λ (p : ℕ × Share). p.0) (option_map {U = ℕ × Share} (λ (share : Share). (i, share)) o))
child-there v test i None e = absurd (cc)
child-there v test i (Some share) e = refl

child-found : (v : View) (test : Share → Bool) (o : Option ℕ) → option_map_or test (option_and_then (parent_row v) (option_and_then (at_number v.shares) o)) false ≡ true
    → IsSome (option_map (λ (p : ℕ × Share). p.0) (option_and_then (numbered_share v) o))
child-found v test None e = absurd (cc)
child-found v test (Some i) e = child-there v test i (at_number v.shares i) e

-- a child is a share that is named
pub child-named : (v : View) (id secret : List ℕ) → is_child_of v id secret ≡ true → IsSome (option_map (λ (p : ℕ × Share). p.0) (option_and_then (numbered_share v) (named id)))
child-named v id secret e = child-found v (has_secret secret) (named id) e

-- the parent of the share that is named by this number
pub parent-named : (v : View) (id : List ℕ) (n : ℕ) (share : Share) → named id ≡ Some n → at_number v.shares n ≡ Some share → option_and_then (parent_row v) (option_and_then (at_number v.shares) (named id)) ≡ parent_row v share
parent-named v id n share e there = rw (e, there) refl
