use Rattle.std.proofs.Common.{◌≡◌, ℕ, zero, suc, ◌<◌, ◌≤◌, List, [], ◌∷◌, ◌++◌, length, map, Bool, true, false, refl, sym, ap, ◌∙◌, ◌⊎◌, inl, inr, arith}
use Rattle.std.specs.Prelude.{Option, Some, None, nat_eq, not, ◌&&◌, slice_get, option_map, filter, if◌then◌else◌}
use Rattle.std.specs.List.{range_with_len}
use Rattle.std.proofs.lemmas.List.{length-map, append-nil}
use Rattle.std.proofs.lemmas.Option.{slice_get_within}
use Rattle.std.proofs.lemmas.Bool.{cases_lt, eq-eqb, ne_eqb}
use Rattle.ocm_types.specs.declared.rights.Rights.{Rights}
use Rattle.ocm_types.specs.Rights.{is_any}
use Rattle.ocm_rules.specs.declared.rows.ShareRow.{ShareRow}
use Rattle.ocm_rules.specs.Equal.{same_rights}
use Rattle.ocm_rules.specs.Numbers.{at_number}
use Rattle.ocm_rules.specs.Shares.{links}
use Rattle.ocm_chain.specs.declared.reaches.Reach.{Reach}
use Rattle.ocm_chain.specs.declared.answers.Change.{Change}
use Rattle.ocm_chain.specs.Lists.{made_of, is_live_at, is_live_without, cut_by, effective_at, effective_with, is_told, changes_by, IsAmongFirst}
use Rattle.ocm_chain.specs.Reaches.{reach_of, reach_at, reach_above, reach_goes_on, AreLower, IsChildless}
use Rattle.ocm_chain.specs.Hypotheses.{with_own, told_by, change_alone}
use Rattle.ocm_chain.proofs.Search.{get-there}
use Rattle.ocm_chain.proofs.ChainLinks.{reach_at-row, reach_at-same, reach-childless}
use Rattle.ocm_chain.proofs.LiveShares.{live-there}
use Rattle.ocm_chain.proofs.OwnNumbers.{filter-push}
use Rattle.ocm_chain.proofs.Hypothesis.{with-at, made-with, live-with, effective-with, told-both, told_by-is}

-- ---- one share closed or limited

with-other : (shares : List ShareRow) (id : ℕ) (rights : Rights) (closed : Bool) (i : ℕ) → (i ≡ id → ⊥) → at_number shares i ≡ at_number (with_own shares id rights closed) i
with-other shares id rights closed i other =
    let test : nat_eq id i ≡ false = ne_eqb id i (λ e. other (sym e)) in
    sym (with-at shares id rights closed i ∙ (ap (λ b. option_map (λ (r : ShareRow). if b then record r { perms = rights; closed = closed } else r) (at_number shares i)) test ∙ plain (at_number shares i)))
  where
    plain : (o : Option ShareRow) → option_map (λ (r : ShareRow). r) o ≡ o
    plain None = refl
    plain (Some r) = refl

with-here : (shares : List ShareRow) (id : ℕ) (row : ShareRow) (rights : Rights) (closed : Bool) → at_number shares id ≡ Some row
    → at_number (with_own shares id rights closed) id ≡ Some (record row { perms = rights; closed = closed })
with-here shares id row rights closed at =
    with-at shares id rights closed id ∙ (ap (λ b. option_map (λ (r : ShareRow). if b then record r { perms = rights; closed = closed } else r) (at_number shares id)) (eq-eqb id id refl)
    ∙ ap (λ o. option_map (λ (r : ShareRow). record r { perms = rights; closed = closed }) o) at)

-- what would be left at the share itself
pub reach-own : (shares : List ShareRow) (id : ℕ) (row : ShareRow) (rights : Rights) (closed : Bool) → AreLower shares → at_number shares id ≡ Some row
    → reach_of closed rights row.end (reach_above shares row.share.parent) ≡ reach_at (with_own shares id rights closed) id
reach-own shares zero row rights closed lower at = absurd (cc)
reach-own shares (suc k) row rights closed lower at =
    ap (reach_of closed rights row.end) (above row.share.parent (lower k row at))
    ∙ sym (reach_at-row (with_own shares (suc k) rights closed) k (record row { perms = rights; closed = closed }) (with-here shares (suc k) row rights closed at) (lower k row at))
  where
    above : (parent : Option ℕ) → IsAmongFirst k parent → reach_above shares parent ≡ reach_above (with_own shares (suc k) rights closed) parent
    above None among = refl
    above (Some p) among =
        let high = (among p refl).1 in
        reach_at-same shares (with_own shares (suc k) rights closed) p (ap (λ ms. links ms p) (sym (made-with shares (suc k) rights closed)))
        (λ i low. with-other shares (suc k) rights closed i (λ e. absurd (omega (arith, e, low, high))))

-- ---- a filter that only one number can pass

filter-none : (test : ℕ → Bool) (n : ℕ) → ((k : ℕ) → k < n → test (suc k) ≡ false) → filter test (range_with_len 1 n) ≡ []
filter-none test zero none = refl
filter-none test (suc n) none =
    filter-push test n ∙ (ap (λ ns. ns ++ (if test (suc n) then suc n ∷ [] else [])) (filter-none test n (λ k low. none k (omega (arith, low))))
    ∙ ap (λ b. if b then suc n ∷ [] else []) (none n (omega arith)))

filter-one : (test : ℕ → Bool) (id n : ℕ) → 1 ≤ id → id ≤ n → ((k : ℕ) → k < n → (suc k ≡ id → ⊥) → test (suc k) ≡ false) → filter test (range_with_len 1 n) ≡ (if test id then id ∷ [] else [])
filter-one test id zero low high other = absurd (omega (arith, low, high))
filter-one test id (suc n) low high other = by_case (λ h. filter-one test id n low h (λ k l e. other k (omega (arith, l)) e)) (cases_lt n id)
  where
    by_case : (id ≤ n → filter test (range_with_len 1 n) ≡ (if test id then id ∷ [] else [])) → (n < id) ⊎ (id ≤ n) → filter test (range_with_len 1 (suc n)) ≡ (if test id then id ∷ [] else [])
    by_case again (inl lt) =
        let last : suc n ≡ id = omega (arith, lt, high) in
        filter-push test n ∙ (ap (λ ns. ns ++ (if test (suc n) then suc n ∷ [] else [])) (filter-none test n (λ k l. other k (omega (arith, l)) (λ e. absurd (omega (arith, e, l, lt)))))
        ∙ ap (λ i. if test i then i ∷ [] else []) last)
    by_case again (inr ge) =
        filter-push test n ∙ (ap (λ b. filter test (range_with_len 1 n) ++ (if b then suc n ∷ [] else [])) (other n (omega arith) (λ e. absurd (omega (arith, e, ge))))
        ∙ (append-nil (filter test (range_with_len 1 n)) ∙ again ge))

-- ---- what is answered of a share with none below it

within : (shares : List ShareRow) (id : ℕ) (row : ShareRow) → at_number shares id ≡ Some row → (1 ≤ id) × (id ≤ length (made_of shares))
within shares zero row at = absurd (cc)
within shares (suc k) row at =
    let low = slice_get_within shares k row at in
    let many = length-map shares (λ (r : ShareRow). r.share) in
    (omega arith, omega (arith, low, many))

there : (shares : List ShareRow) (k : ℕ) → k < length (made_of shares) → (row : ShareRow) × (slice_get shares k ≡ Some row)
there shares k low = let many = length-map shares (λ (r : ShareRow). r.share) in get-there shares k (omega (arith, low, many))

and-not : (b : Bool) → (b && not b) ≡ false
and-not true = refl
and-not false = refl

and-keep : (b : Bool) → (b && true) ≡ b
and-keep true = refl
and-keep false = refl

-- closing it takes it alone, where it goes on
pub cut-alone : (moment : ℕ) (shares : List ShareRow) (id : ℕ) (row : ShareRow) → AreLower shares → IsChildless (made_of shares) id → at_number shares id ≡ Some row
    → (if reach_goes_on moment (reach_at shares id) then id ∷ [] else []) ≡ cut_by moment shares id
cut-alone moment shares id row lower childless at =
    let bounds = within shares id row at in
    sym (filter-one test id (length (made_of shares)) bounds.0 bounds.1 others ∙ ap (λ b. if b then id ∷ [] else []) here)
  where
    after : List ShareRow
    after = with_own shares id row.perms true

    test : ℕ → Bool
    test i = is_live_at moment shares i && not (is_live_without moment shares id i)

    others : (k : ℕ) → k < length (made_of shares) → (suc k ≡ id → ⊥) → is_live_at moment shares (suc k) && not (is_live_without moment shares id (suc k)) ≡ false
    others k low other =
        let one = there shares k low in
        let same = with-other shares id row.perms true in
        let live = live-there moment shares (suc k) one.0 one.1 in
        let left = reach-childless shares (with_own shares id row.perms true) id lower childless same k one.0 one.1 other in
        let without : is_live_without moment shares id (suc k) ≡ is_live_at moment shares (suc k) =
        sym (live-with moment shares id row row.perms at (suc k))
        ∙ (live-there moment (with_own shares id row.perms true) (suc k) one.0 (sym (same (suc k) other) ∙ one.1) ∙ (ap (reach_goes_on moment) (sym left) ∙ sym live)) in
        ap (λ t. is_live_at moment shares (suc k) && not t) without ∙ and-not (is_live_at moment shares (suc k))

    here : is_live_at moment shares id && not (is_live_without moment shares id id) ≡ reach_goes_on moment (reach_at shares id)
    here =
        let closed : is_live_without moment shares id id ≡ false =
        sym (live-with moment shares id row row.perms at id)
        ∙ (live-there moment (with_own shares id row.perms true) id (record row { closed = true }) (with-here shares id row row.perms true at)
        ∙ ap (reach_goes_on moment) (sym (reach-own shares id row row.perms true lower at))) in
        ap (λ t. is_live_at moment shares id && not t) closed ∙ (and-keep (is_live_at moment shares id) ∙ live-there moment shares id row at)

same-self : (r : Rights) → same_rights r r ≡ true
same-self r = by_case r.read r.write r.share
  where
    by_case : (a b c : Bool) → same_rights (record { read = a; write = b; share = c }) (record { read = a; write = b; share = c }) ≡ true
    by_case true true true = refl
    by_case true true false = refl
    by_case true false true = refl
    by_case true false false = refl
    by_case false true true = refl
    by_case false true false = refl
    by_case false false true = refl
    by_case false false false = refl

and-never : (a b : Bool) → (a && b && false) ≡ false
and-never true true = refl
and-never true false = refl
and-never false b = refl

-- limiting it tells its guest alone, where anything is told
pub changes-alone : (moment : ℕ) (shares : List ShareRow) (id : ℕ) (row : ShareRow) (rights : Rights) (closed : Bool) → AreLower shares → IsChildless (made_of shares) id → at_number shares id ≡ Some row
    → change_alone id (told_by moment (reach_at shares id) (reach_at (with_own shares id rights closed) id)) ≡ changes_by moment shares id rights
changes-alone moment shares id row rights closed lower childless at =
    let bounds = within shares id row at in
    let before = reach_at shares id in
    let after = reach_at (with_own shares id rights closed) id in
    ap (change_alone id) (told_by-is moment before after)
    ∙ (by_case (told-both moment before after) after.effective (effective-with shares id row rights closed at id)
    ∙ sym (ap (map told_of) (filter-one (is_told moment shares id rights) id (length (made_of shares)) bounds.0 bounds.1 others ∙ ap (λ b. if b then id ∷ [] else []) here)))
  where
    told_of : ℕ → Change
    told_of i = record { id = i; perms = effective_with shares id rights i }

    telling : Rights → Change
    telling r = record { id = id; perms = r }

    by_case : (b : Bool) (r : Rights) → r ≡ effective_with shares id rights id → change_alone id (if b then Some r else None) ≡ map told_of (if b then id ∷ [] else [])
    by_case true r e = ap (λ x. telling x ∷ []) e
    by_case false r e = refl

    test : Bool → Rights → Rights → Bool
    test live new old = live && is_any new && not (same_rights new old)

    others : (k : ℕ) → k < length (made_of shares) → (suc k ≡ id → ⊥) → is_told moment shares id rights (suc k) ≡ false
    others k low other =
        let one = there shares k low in
        let left = reach-childless shares (with_own shares id rights closed) id lower childless (with-other shares id rights closed) k one.0 one.1 other in
        let same : effective_with shares id rights (suc k) ≡ effective_at shares (suc k) = sym (effective-with shares id row rights closed at (suc k)) ∙ ap (λ (r : Reach). r.effective) (sym left) in
        ap (λ r. test (is_live_at moment shares (suc k)) r (effective_at shares (suc k))) same
        ∙ (ap (λ t. is_live_at moment shares (suc k) && is_any (effective_at shares (suc k)) && not t) (same-self (effective_at shares (suc k)))
        ∙ and-never (is_live_at moment shares (suc k)) (is_any (effective_at shares (suc k))))

    here : is_told moment shares id rights id ≡ told-both moment (reach_at shares id) (reach_at (with_own shares id rights closed) id)
    here =
        ap (λ t. test t (effective_with shares id rights id) (effective_at shares id)) (live-there moment shares id row at)
        ∙ ap (λ r. test (reach_goes_on moment (reach_at shares id)) r (effective_at shares id)) (sym (effective-with shares id row rights closed at id))
