use Rattle.std.proofs.Common.{◌≡◌, ℕ, zero, suc, ◌+◌, ◌<◌, ◌≤◌, List, [], ◌∷◌, ◌++◌, length, Bool, true, false, refl, sym, ap, ◌∙◌, ◌⊎◌, inl, inr, arith}
use Rattle.std.specs.Prelude.{Option, Some, None, nat_eq, nat_le, not, ◌&&◌, ◌||◌, min, slice_get, option_map, reverse, if◌then◌else◌}
use Rattle.std.specs.List.{list_all}
use Rattle.std.specs.Option.{option_map_or}
use Rattle.std.proofs.lemmas.List.{length-reverse, length-append, reverse-append, reverse-reverse}
use Rattle.std.proofs.lemmas.Grind.{reverse_onto}
use Rattle.std.proofs.lemmas.Option.{slice_get-map, slice_get_within}
use Rattle.std.proofs.lemmas.Bool.{eqb-true, eqb-false, ne_eqb, leb-true, leb-false, le-leb, lt-leb, cases_lt}
use Rattle.ocm_types.specs.Rights.{both}
use Rattle.ocm_entry.specs.declared.rows.Share.{Share}
use Rattle.ocm_rules.specs.declared.rows.ShareRow.{ShareRow}
use Rattle.ocm_rules.specs.Numbers.{at_number}
use Rattle.ocm_rules.specs.Shares.{no_rights, links, links_among}
use Rattle.ocm_rules.specs.State.{row_goes_on}
use Rattle.ocm_rules.proofs.Numbering.{at_number-beyond}
use Rattle.ocm_chain.specs.declared.reaches.Reach.{Reach}
use Rattle.ocm_chain.specs.Lists.{made_of, goes_on_at, IsAmongFirst}
use Rattle.ocm_chain.specs.Reaches.{least, reach_of, is_closed_at, end_at, end_along, reach_along, reach_at, reach_above, reach_goes_on, AreLower, IsChildless}
use Rattle.ocm_chain.proofs.Search.{get-there}
use Rattle.ocm_chain.proofs.Places.{slice_get-last, at_number-front, at_number-map}

-- ---- links, where the shares stand newest first

-- the share of a number, where they stand newest first
at_newest : List Share → ℕ → Option Share
at_newest [] i = None
at_newest (share ∷ older) i = if nat_eq i (length older + 1) then Some share else at_newest older i

at_newest-within : (xs : List Share) (i : ℕ) (m : Share) → at_newest xs i ≡ Some m → i ≤ length xs
unfolding at_newest
at_newest-within [] i m h = absurd (cc)
at_newest-within (x ∷ older) i m h = by_case (at_newest-within older i m) (nat_eq i (length older + 1)) refl h
  where
    by_case : (at_newest older i ≡ Some m → i ≤ length older) → (b : Bool) → nat_eq i (length older + 1) ≡ b → (if b then Some x else at_newest older i) ≡ Some m → i ≤ length (x ∷ older)
    by_case again true e g = let last = eqb-true i (length older + 1) e in omega arith
    by_case again false e g = let below = again g in omega arith

-- a parent among the older ones has the same links with one more in front
above-older : (x : Share) (older : List Share) (parent : Option ℕ) → ((p : ℕ) → parent ≡ Some p → p ≤ length older)
    → option_map_or (links_among (x ∷ older)) parent [] ≡ option_map_or (links_among older) parent []
above-older x older None h = refl
above-older x older (Some p) h =
    let low = h p refl in
    let other : nat_eq p (length older + 1) ≡ false = ne_eqb p (length older + 1) (λ e. absurd (omega (arith, e, low))) in
    rw other refl

-- the links of a share are its number and those of its parent
links-newest : (xs : List Share) (i : ℕ) (m : Share) → at_newest xs i ≡ Some m → ((p : ℕ) → m.parent ≡ Some p → p < i)
    → links_among xs i ≡ i ∷ option_map_or (links_among xs) m.parent []
unfolding at_newest
links-newest [] i m at low = absurd (cc)
links-newest (x ∷ older) i m at low = by_case (λ g. links-newest older i m g low) (nat_eq i (length older + 1)) refl at
  where
    by_case : (at_newest older i ≡ Some m → links_among older i ≡ i ∷ option_map_or (links_among older) m.parent []) → (b : Bool) → nat_eq i (length older + 1) ≡ b → (if b then Some x else at_newest older i) ≡ Some m
        → (if b then i ∷ option_map_or (links_among older) x.parent [] else links_among older i) ≡ i ∷ option_map_or (links_among (x ∷ older)) m.parent []
    by_case again true e g =
        let last = eqb-true i (length older + 1) e in
        let same : m ≡ x = cc in
        let above = above-older x older m.parent (λ p h. let below = low p h in omega (arith, below, last)) in
        ap (λ (s : Share). i ∷ option_map_or (links_among older) s.parent []) (sym same) ∙ ap (λ ns. i ∷ ns) (sym above)
    by_case again false e g =
        let within = at_newest-within older i m g in
        let above = above-older x older m.parent (λ p h. let below = low p h in omega (arith, below, within)) in
        again g ∙ ap (λ ns. i ∷ ns) (sym above)

at_number-last : {X : Type 0} (xs : List X) (x : X) (n : ℕ) → n ≡ length xs + 1 → at_number (xs ++ x ∷ []) n ≡ Some x
at_number-last xs x zero e = absurd (omega (arith, e))
at_number-last xs x (suc n) e = let same : n ≡ length xs = omega (arith, e) in ap (slice_get (xs ++ x ∷ [])) same ∙ slice_get-last xs x

at_number-push : {X : Type 0} (xs : List X) (x : X) (i : ℕ) → (i ≡ length xs + 1 → ⊥) → at_number (xs ++ x ∷ []) i ≡ at_number xs i
at_number-push xs x i other = by_place (cases_lt (length xs) i)
  where
    by_place : (length xs < i) ⊎ (i ≤ length xs) → at_number (xs ++ x ∷ []) i ≡ at_number xs i
    by_place (inr low) = at_number-front xs x i low
    by_place (inl high) =
        let longer = length-append xs (x ∷ []) in
        let beyond : length (xs ++ x ∷ []) < i = omega (arith, high, longer, other) in
        at_number-beyond (xs ++ x ∷ []) i beyond ∙ sym (at_number-beyond xs i high)

newest-step : (x : Share) (older : List Share) (i : ℕ) → at_newest older i ≡ at_number (reverse older) i → length (reverse older) ≡ length older
    → (b : Bool) → nat_eq i (length older + 1) ≡ b → (if b then Some x else at_newest older i) ≡ at_number (reverse older ++ x ∷ []) i
unfolding at_newest
newest-step x older i again many true e = let here = eqb-true i (length older + 1) e in sym (at_number-last (reverse older) x i (omega (arith, here, many)))
newest-step x older i again many false e =
    let other = eqb-false i (length older + 1) e in
    again ∙ sym (at_number-push (reverse older) x i (λ h. other (omega (arith, h, many))))

at_newest-reverse : (xs : List Share) (i : ℕ) → at_newest xs i ≡ at_number (reverse xs) i
unfolding at_newest
at_newest-reverse [] zero = refl
at_newest-reverse [] (suc i) = refl
at_newest-reverse (x ∷ older) i =
    newest-step x older i (at_newest-reverse older i) (length-reverse older) (nat_eq i (length older + 1)) refl
    ∙ ap (λ ms. at_number ms i) (sym (reverse_onto older x []))

-- the links of a share are its number and those of its parent, which is an earlier number
pub links-parent : (ms : List Share) (k : ℕ) (m : Share) → slice_get ms k ≡ Some m → IsAmongFirst k m.parent → links ms (suc k) ≡ suc k ∷ option_map_or (links ms) m.parent []
links-parent ms k m at low =
    let there : at_newest (reverse ms) (suc k) ≡ Some m = at_newest-reverse (reverse ms) (suc k) ∙ ap (λ l. at_number l (suc k)) (reverse-reverse ms) ∙ at in
    links-newest (reverse ms) (suc k) m there (λ p h. let below = (low p h).1 in omega (arith, below))

-- a share keeps its links when one more is made
pub links-front : (ms : List Share) (m : Share) (i : ℕ) → i ≤ length ms → links (ms ++ m ∷ []) i ≡ links ms i
links-front ms m i h =
    let turned : reverse (ms ++ m ∷ []) ≡ m ∷ reverse ms = reverse-append ms (m ∷ []) in
    let as_many = length-reverse ms in
    let other : nat_eq i (length (reverse ms) + 1) ≡ false = ne_eqb i (length (reverse ms) + 1) (λ e. absurd (omega (arith, e, as_many, h))) in
    ap (λ l. links_among l i) turned ∙ rw other refl

-- ---- what is left

-- below a link of this row
reach_step : Option ShareRow → Reach → Reach
reach_step o above = record {
  live = not (option_map_or (λ (row : ShareRow). row.closed) o false) && above.live;
  effective = both (option_map_or (λ (row : ShareRow). row.perms) o no_rights) above.effective;
  end = least (option_map_or (λ (row : ShareRow). row.end) o None) above.end;
}

reach_along-cons : (shares : List ShareRow) (i : ℕ) (ns : List ℕ) → reach_along shares (i ∷ ns) ≡ reach_step (at_number shares i) (reach_along shares ns)
unfolding reach_step
reach_along-cons shares i ns = refl

above-along : (shares : List ShareRow) (parent : Option ℕ) → reach_along shares (option_map_or (links (made_of shares)) parent []) ≡ reach_above shares parent
above-along shares None = refl
above-along shares (Some p) = refl

-- what is left at a share is what its own row leaves of what is left above it
pub reach_at-row : (shares : List ShareRow) (k : ℕ) (row : ShareRow) → slice_get shares k ≡ Some row → IsAmongFirst k row.share.parent
    → reach_at shares (suc k) ≡ reach_of row.closed row.perms row.end (reach_above shares row.share.parent)
unfolding reach_step
reach_at-row shares k row at low =
    let share : slice_get (made_of shares) k ≡ Some row.share = at_number-map (λ (r : ShareRow). r.share) shares (suc k) ∙ ap (λ o. option_map (λ (r : ShareRow). r.share) o) at in
    ap (reach_along shares) (links-parent (made_of shares) k row.share share low)
    ∙ (reach_along-cons shares (suc k) (option_map_or (links (made_of shares)) row.share.parent [])
    ∙ (ap (λ o. reach_step o (reach_along shares (option_map_or (links (made_of shares)) row.share.parent []))) at
    ∙ ap (reach_step (Some row)) (above-along shares row.share.parent)))

-- the same is left along links whose rows are the same
along-same : (a b : List ShareRow) (xs : List Share) (i : ℕ) → ((j : ℕ) → j ≤ i → j ≤ length xs → at_number a j ≡ at_number b j) → reach_along a (links_among xs i) ≡ reach_along b (links_among xs i)
along-same a b [] i same = refl
along-same a b (x ∷ older) i same = by_case (λ p h. along-same a b older p h) (nat_eq i (length older + 1)) refl
  where
    Again : Type 0
    Again = (p : ℕ) → ((j : ℕ) → j ≤ p → j ≤ length older → at_number a j ≡ at_number b j) → reach_along a (links_among older p) ≡ reach_along b (links_among older p)

    above : Again → (parent : Option ℕ) → i ≡ length older + 1 → reach_along a (option_map_or (links_among older) parent []) ≡ reach_along b (option_map_or (links_among older) parent [])
    above again None e = refl
    above again (Some p) e = again p (λ j low high. same j (omega (arith, high, e)) (omega (arith, high)))

    by_case : Again → (t : Bool) → nat_eq i (length older + 1) ≡ t
        → reach_along a (if t then i ∷ option_map_or (links_among older) x.parent [] else links_among older i) ≡ reach_along b (if t then i ∷ option_map_or (links_among older) x.parent [] else links_among older i)
    by_case again true e =
        let last = eqb-true i (length older + 1) e in
        let tail = option_map_or (links_among older) x.parent [] in
        reach_along-cons a i tail
        ∙ (ap (λ o. reach_step o (reach_along a tail)) (same i (omega arith) (omega (arith, last)))
        ∙ (ap (reach_step (at_number b i)) (above again x.parent last) ∙ sym (reach_along-cons b i tail)))
    by_case again false e = again i (λ j low high. same j low (omega (arith, high)))

-- what is left at a share follows from the rows up to its number
pub reach_at-same : (a b : List ShareRow) (i : ℕ) → links (made_of a) i ≡ links (made_of b) i → ((j : ℕ) → j ≤ i → at_number a j ≡ at_number b j) → reach_at a i ≡ reach_at b i
reach_at-same a b i same rows =
    ap (reach_along a) same ∙ along-same a b (reverse (made_of b)) i (λ j low high. rows j low)

-- ---- what is left apart from a change

-- what is left at a share apart, where those above it are apart and the rows apart are the same
pub reach-apart : (Apart : ℕ → Type 0) (a b : List ShareRow) → AreLower a → ((i : ℕ) → Apart i → at_number a i ≡ at_number b i)
    → ((k p : ℕ) (row : ShareRow) → slice_get a k ≡ Some row → row.share.parent ≡ Some p → Apart (suc k) → Apart p)
    → (n j : ℕ) (row : ShareRow) → j < n → slice_get a j ≡ Some row → Apart (suc j) → reach_at a (suc j) ≡ reach_at b (suc j)
reach-apart Apart a b lower same above zero j row low at apart = absurd (omega (arith, low))
reach-apart Apart a b lower same above (suc n) j row low at apart =
    reach_at-row a j row at (lower j row at)
    ∙ (ap (reach_of row.closed row.perms row.end) (by_parent (λ i r l t x. reach-apart Apart a b lower same above n i r l t x) row.share.parent refl (lower j row at))
    ∙ sym (reach_at-row b j row (sym (same (suc j) apart) ∙ at) (lower j row at)))
  where
    Again : Type 0
    Again = (i : ℕ) (r : ShareRow) → i < n → slice_get a i ≡ Some r → Apart (suc i) → reach_at a (suc i) ≡ reach_at b (suc i)

    by_number : Again → (p : ℕ) → row.share.parent ≡ Some p → 1 ≤ p → p ≤ j → reach_at a p ≡ reach_at b p
    by_number again zero e some high = absurd (omega (arith, some))
    by_number again (suc i) e some high =
        let within = slice_get_within a j row at in
        let there = get-there a i (omega (arith, within, high)) in
        again i there.0 (omega (arith, high, low)) there.1 (above j (suc i) row at e apart)

    by_parent : Again → (parent : Option ℕ) → row.share.parent ≡ parent → IsAmongFirst j parent → reach_above a parent ≡ reach_above b parent
    by_parent again None e among = refl
    by_parent again (Some p) e among = by_number again p e (among p refl).0 (among p refl).1

share-at : (shares : List ShareRow) (k : ℕ) (row : ShareRow) → slice_get shares k ≡ Some row → slice_get (made_of shares) k ≡ Some row.share
share-at shares k row at = slice_get-map (λ (r : ShareRow). r.share) shares k ∙ ap (λ o. option_map (λ (r : ShareRow). r.share) o) at

-- a change of a share with none below it leaves the same at each other
pub reach-childless : (a b : List ShareRow) (id : ℕ) → AreLower a → IsChildless (made_of a) id → ((i : ℕ) → (i ≡ id → ⊥) → at_number a i ≡ at_number b i)
    → (j : ℕ) (row : ShareRow) → slice_get a j ≡ Some row → (suc j ≡ id → ⊥) → reach_at a (suc j) ≡ reach_at b (suc j)
reach-childless a b id lower childless same j row at other =
    reach-apart (λ i. i ≡ id → ⊥) a b lower same
    (λ k p r found e apart here. childless k r.share (share-at a k r found) (e ∙ ap (λ n. Some n) here))
    (suc j) j row (omega arith) at other

-- ---- whether it goes on

and-swap : (a b c d : Bool) → ((a && b) && (c && d)) ≡ ((a && c) && (b && d))
and-swap true true c d = refl
and-swap true false true d = refl
and-swap true false false d = refl
and-swap false b c d = refl

-- whether an end has come
is_past : ℕ → Option ℕ → Bool
is_past moment end = option_map_or (λ e. nat_le e moment) end false

past-least : (moment : ℕ) (a b : Option ℕ) → not (is_past moment (least a b)) ≡ (not (is_past moment a) && not (is_past moment b))
unfolding is_past
past-least moment None b = refl
past-least moment (Some a) None = and-true (not (nat_le a moment))
  where
    and-true : (t : Bool) → t ≡ (t && true)
    and-true true = refl
    and-true false = refl
past-least moment (Some a) (Some b) = ap not (by_case (nat_le a moment) refl (nat_le b moment) refl) ∙ not-or (nat_le a moment) (nat_le b moment)
  where
    not-or : (s t : Bool) → not (s || t) ≡ (not s && not t)
    not-or true t = refl
    not-or false t = refl

    by_case : (s : Bool) → nat_le a moment ≡ s → (t : Bool) → nat_le b moment ≡ t → nat_le (min a b) moment ≡ (nat_le a moment || nat_le b moment)
    by_case true e t f = let low = leb-true a moment e in rw e (le-leb (min a b) moment (omega arith))
    by_case false e true f = let high = leb-false a moment e in let low = leb-true b moment f in rw (e, f) (le-leb (min a b) moment (omega arith))
    by_case false e false f = let high = leb-false a moment e in let higher = leb-false b moment f in rw (e, f) (lt-leb (min a b) moment (omega arith))

row-on : (moment : ℕ) (shares : List ShareRow) (i : ℕ) → goes_on_at moment shares i ≡ (not (is_closed_at shares i) && not (is_past moment (end_at shares i)))
unfolding is_past
row-on moment shares i = by_case (at_number shares i)
  where
    by_case : (o : Option ShareRow) → option_map_or (row_goes_on moment) o true ≡ (not (option_map_or (λ (row : ShareRow). row.closed) o false) && not (option_map_or (λ e. nat_le e moment) (option_map_or (λ (row : ShareRow). row.end) o None) false))
    by_case None = refl
    by_case (Some row) = refl

-- links go on where none was closed and no end has come
pub goes_on-along : (moment : ℕ) (shares : List ShareRow) (ns : List ℕ) → list_all (goes_on_at moment shares) ns ≡ reach_goes_on moment (reach_along shares ns)
unfolding is_past
goes_on-along moment shares [] = refl
goes_on-along moment shares (i ∷ ns) =
    let closed = not (is_closed_at shares i) in
    let over = not (is_past moment (end_at shares i)) in
    let live = list_all (λ j. not (is_closed_at shares j)) ns in
    let end = not (is_past moment (end_along shares ns)) in
    ap (λ t. t && list_all (goes_on_at moment shares) ns) (row-on moment shares i)
    ∙ (ap (λ t. (closed && over) && t) (goes_on-along moment shares ns)
    ∙ (and-swap closed over live end ∙ ap (λ t. (closed && live) && t) (sym (past-least moment (end_at shares i) (end_along shares ns)))))
