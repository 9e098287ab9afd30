use Rattle.std.proofs.Common.{◌≡◌, ℕ, zero, suc, ◌+◌, ◌<◌, ◌≤◌, List, [], ◌∷◌, ◌++◌, length, Bool, true, false, refl, ap, ◌∙◌, arith}
use Rattle.std.specs.Prelude.{Option, Some, None, nat_eq, ◌&&◌, ◌||◌, if◌then◌else◌, is_some, reverse}
use Rattle.std.specs.List.{list_any, list_all, slice_get}
use Rattle.std.specs.Option.{option_map_or}
use Rattle.std.proofs.lemmas.List.{reverse-append, length-reverse}
use Rattle.std.proofs.lemmas.Bool.{ne_eqb, eq-eqb, eqb-true, eqb-false}
use Rattle.ocm_entry.specs.declared.rows.Share.{Share}
use Rattle.ocm_rules.specs.Numbers.{added, at_number}
use Rattle.ocm_rules.specs.Shares.{links, links_among, is_live_among}

-- the items of a list stay where they are when one comes behind them
slice_get-behind : {X : Type 0} (xs : List X) (x : X) (i : ℕ) → i < length xs → slice_get (xs ++ x ∷ []) i ≡ slice_get xs i
slice_get-behind [] x i h = absurd (omega arith)
slice_get-behind (y ∷ ys) x zero h = refl
slice_get-behind (y ∷ ys) x (suc i) h = slice_get-behind ys x i (omega arith)

-- the shares keep their numbers when one more is made
pub at_number-behind : {X : Type 0} (xs : List X) (x : X) (i : ℕ) → i ≤ length xs → at_number (xs ++ x ∷ []) i ≡ at_number xs i
at_number-behind xs x zero h = refl
at_number-behind xs x (suc i) h = slice_get-behind xs x i (omega arith)

-- a share keeps the links above it when one more is made
pub links-behind : (ms : List Share) (m : Share) (i : ℕ) → i ≤ length ms → links (ms ++ m ∷ []) i ≡ links ms i
links-behind ms m i h =
    let turned : reverse (ms ++ m ∷ []) ≡ m ∷ reverse ms = reverse-append ms (m ∷ []) in
    let other : nat_eq i (length (reverse ms) + 1) ≡ false = ne_eqb i _ (λ e. let l = length-reverse ms in absurd (omega arith)) in
    ap (λ l. links_among l i) turned ∙ rw other refl

-- a share that is there is live as before when one more is made
pub is_live_among-behind : (ms : List Share) (m : Share) (on : ℕ → Bool) (i : ℕ) → i ≤ length ms → is_live_among (ms ++ m ∷ []) on i ≡ is_live_among ms on i
is_live_among-behind ms m on i h = rw (at_number-behind ms m i h, links-behind ms m i h) refl

-- the same with what an entry makes or makes not
pub is_live_among-added : (ms : List Share) (made : Option Share) (on : ℕ → Bool) (i : ℕ) → i ≤ length ms → is_live_among (added ms made) on i ≡ is_live_among ms on i
is_live_among-added ms None on i h = refl
is_live_among-added ms (Some m) on i h = is_live_among-behind ms m on i h

-- ---- tests

-- both of two tests hold
pub both_true : (a b : Bool) → (a && b) ≡ true → (a ≡ true) × (b ≡ true)
both_true true b h = (refl, h)
both_true false b h = absurd (cc)

-- what passes a sharper test passes
pub list_all-weaker : (p q : ℕ → Bool) → ((i : ℕ) → q i ≡ true → p i ≡ true) → (ns : List ℕ) → list_all q ns ≡ true → list_all p ns ≡ true
list_all-weaker p q weaker [] h = refl
list_all-weaker p q weaker (n ∷ ns) h =
    let r = both_true (q n) (list_all q ns) h in
    rw (weaker n r.0, list_all-weaker p q weaker ns r.1) refl

-- one that is among those who pass passes
pub list_all-one : (p : ℕ → Bool) (i : ℕ) (ns : List ℕ) → list_any (nat_eq i) ns ≡ true → list_all p ns ≡ true → p i ≡ true
list_all-one p i [] among h = absurd (cc)
list_all-one p i (n ∷ ns) among h =
    let r = both_true (p n) (list_all p ns) h in
    cases (nat_eq i n) refl among r.0 (λ a. list_all-one p i ns a r.1)
  where
    cases : (b : Bool) → nat_eq i n ≡ b → (b || list_any (nat_eq i) ns) ≡ true → p n ≡ true → (list_any (nat_eq i) ns ≡ true → p i ≡ true) → p i ≡ true
    cases true e a g later = rw (eqb-true i n e) g
    cases false e a g later = later a

-- a share that is live while its links pass a sharper test is live
pub is_live_among-weaker : (ms : List Share) (p q : ℕ → Bool) → ((i : ℕ) → q i ≡ true → p i ≡ true) → (i : ℕ) → is_live_among ms q i ≡ true → is_live_among ms p i ≡ true
is_live_among-weaker ms p q weaker i h =
    let r = both_true (is_some (at_number ms i)) (list_all q (links ms i)) h in
    rw (r.0, list_all-weaker p q weaker (links ms i) r.1) refl

-- ---- links of a share

-- the links of a share pass, and it is one of these
abbrev pub PassesAt : (ℕ → Bool) → List Share → ℕ → Type 0
PassesAt on xs i = (list_all on (links_among xs i) ≡ true) × (1 ≤ i) × (i ≤ length xs)

-- a share that is one of the older ones has the same links among all
PassesAt-older : (on : ℕ → Bool) (x : Share) (older : List Share) (i : ℕ) → PassesAt on older i → PassesAt on (x ∷ older) i
PassesAt-older on x older i r =
    let low = r.1 in
    let high = r.2 in
    let other : nat_eq i (length older + 1) ≡ false = ne_eqb i _ (λ e. absurd (omega arith)) in
    (rw other r.0, r.1, omega arith)

-- the links of a share pass where it is among the links of another, and those pass
links_among-tail : (on : ℕ → Bool) (xs : List Share) (i j : ℕ) → list_any (nat_eq i) (links_among xs j) ≡ true → list_all on (links_among xs j) ≡ true → PassesAt on xs i
links_among-tail on [] i j among all = absurd (cc)
links_among-tail on (x ∷ older) i j among all = cases (nat_eq j (length older + 1)) refl among all (λ p a h. links_among-tail on older i p a h)
  where
    Again : Type 0
    Again = (p : ℕ) → list_any (nat_eq i) (links_among older p) ≡ true → list_all on (links_among older p) ≡ true → PassesAt on older i

    above : Again → (parent : Option ℕ) → list_any (nat_eq i) (option_map_or (links_among older) parent []) ≡ true → list_all on (option_map_or (links_among older) parent []) ≡ true → PassesAt on older i
    above again None a h = absurd (cc)
    above again (Some p) a h = again p a h

    itself : Again → (b : Bool) → nat_eq i j ≡ b → j ≡ length older + 1 → (b || list_any (nat_eq i) (option_map_or (links_among older) x.parent [])) ≡ true → list_all on (j ∷ option_map_or (links_among older) x.parent []) ≡ true → PassesAt on (x ∷ older) i
    itself again true e last a h =
        let same : i ≡ j = eqb-true i j e in
        let first : nat_eq i (length older + 1) ≡ true = eq-eqb i _ (same ∙ last) in
        (rw first (rw same h), omega arith, omega arith)
    itself again false e last a h = PassesAt-older on x older i (above again x.parent a (both_true (on j) _ h).1)

    cases : (b : Bool) → nat_eq j (length older + 1) ≡ b → list_any (nat_eq i) (if b then j ∷ option_map_or (links_among older) x.parent [] else links_among older j) ≡ true → list_all on (if b then j ∷ option_map_or (links_among older) x.parent [] else links_among older j) ≡ true → Again → PassesAt on (x ∷ older) i
    cases true e a h again = itself again (nat_eq i j) refl (eqb-true j _ e) a h
    cases false e a h again = PassesAt-older on x older i (again j a h)

-- a number at which something stands is one of the list's
pub at_number-within : {X : Type 0} (xs : List X) (i : ℕ) → 1 ≤ i → i ≤ length xs → is_some (at_number xs i) ≡ true
at_number-within xs zero low high = absurd (omega arith)
at_number-within [] (suc i) low high = absurd (omega arith)
at_number-within (x ∷ xs) (suc zero) low high = refl
at_number-within (x ∷ xs) (suc (suc i)) low high = at_number-within xs (suc i) (omega arith) (omega arith)

-- of a live share, each link is live
pub links-live : (ms : List Share) (on : ℕ → Bool) (i j : ℕ) → is_live_among ms on j ≡ true → list_any (nat_eq i) (links ms j) ≡ true → is_live_among ms on i ≡ true
links-live ms on i j live among =
    let r = both_true (is_some (at_number ms j)) (list_all on (links ms j)) live in
    let tail = links_among-tail on (reverse ms) i j among r.1 in
    let l = length-reverse ms in
    let high = tail.2 in
    rw (at_number-within ms i tail.1 (omega arith), tail.0) refl

-- each link of a live share goes on
pub links-go_on : (ms : List Share) (on : ℕ → Bool) (i j : ℕ) → is_live_among ms on j ≡ true → list_any (nat_eq i) (links ms j) ≡ true → on i ≡ true
links-go_on ms on i j live among = list_all-one on i (links ms j) among (both_true (is_some (at_number ms j)) (list_all on (links ms j)) live).1

-- a share is the first of its links
links_among-first : (on : ℕ → Bool) (xs : List Share) (i : ℕ) → 1 ≤ i → i ≤ length xs → list_all on (links_among xs i) ≡ true → on i ≡ true
links_among-first on [] i low high h = absurd (omega arith)
links_among-first on (x ∷ older) i low high h = cases (nat_eq i (length older + 1)) refl h (λ k l. links_among-first on older i low k l)
  where
    cases : (b : Bool) → nat_eq i (length older + 1) ≡ b → list_all on (if b then i ∷ option_map_or (links_among older) x.parent [] else links_among older i) ≡ true → (i ≤ length older → list_all on (links_among older i) ≡ true → on i ≡ true) → on i ≡ true
    cases true e k again = (both_true (on i) _ k).0
    cases false e k again =
        let other = eqb-false i (length older + 1) e in
        again (omega arith) k

-- where something stands at a number, it is one of the list's
pub within-at_number : {X : Type 0} (xs : List X) (i : ℕ) → is_some (at_number xs i) ≡ true → (1 ≤ i) × (i ≤ length xs)
within-at_number xs zero h = absurd (cc)
within-at_number [] (suc i) h = absurd (cc)
within-at_number (x ∷ xs) (suc zero) h = (omega arith, omega arith)
within-at_number (x ∷ xs) (suc (suc i)) h = let r = within-at_number xs (suc i) h in let a = r.0 in let b = r.1 in (omega arith, omega arith)

-- a live share goes on itself
pub live-goes_on : (ms : List Share) (on : ℕ → Bool) (i : ℕ) → is_live_among ms on i ≡ true → on i ≡ true
live-goes_on ms on i live =
    let r = both_true (is_some (at_number ms i)) (list_all on (links ms i)) live in
    let within = within-at_number ms i r.0 in
    let l = length-reverse ms in
    let high = within.1 in
    links_among-first on (reverse ms) i within.0 (omega arith) r.1
