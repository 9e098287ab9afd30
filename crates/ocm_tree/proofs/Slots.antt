use Rattle.std.proofs.Common.{◌≡◌, ℕ, suc, ◌+◌, ◌<◌, List, [], ◌∷◌, ◌++◌, length, map, get_or, slice_set, Bool, true, false, cond, not, refl, sym, ap, ◌∙◌, arith}
use Rattle.std.specs.Prelude.{Option, Some, None, option_map, is_some, filter, if◌then◌else◌}
use Rattle.std.specs.Option.{option_or}
use Rattle.ocm_entry.specs.declared.rows.Place.{Place}
use Rattle.ocm_entry.specs.declared.rows.Node.{Node}
use Rattle.ocm_rules.specs.Files.{same_place, is_at_or_above, with_node}
use Rattle.ocm_rules.specs.State.{node_at, EachOnce}
use Rattle.ocm_rules.proofs.Lists.{not_both}
use Rattle.ocm_rules.proofs.Places.{same_place-equal, same_place-refl, same_place-Decides}
use Rattle.ocm_tree.specs.Tables.{Slots, somes, slot_of, cleared, IsLeaf}
use Rattle.ocm_tree.proofs.Removed.{outside, above-refl}

-- ---- which slot a node is in

pub shifted : (o : Option ℕ) (i : ℕ) → option_map (λ k. k + 1) o ≡ Some i → (j : ℕ) × ((o ≡ Some j) × (suc j ≡ i))
shifted None i e = absurd (cc)
shifted (Some j) i e = let z : j + 1 ≡ i = cc in (j, (refl, omega arith))

-- a slot holds the node of a place
pub record IsIn (slots : Slots) (place : Place) (i : ℕ) (n : Node) : Type 0 where
  pub within : i < length slots
  pub slot : (d : Option Node) → get_or slots i d ≡ Some n
  pub there : n.place ≡ place
  pub stands : node_at (somes slots) place ≡ Some n.standing

pub in-slot : (slots : Slots) (place : Place) (i : ℕ) → slot_of slots place ≡ Some i → (n : Node) × IsIn slots place i n
in-slot [] place i e = absurd (cc)
in-slot (None ∷ slots) place i e =
    let s = shifted (slot_of slots place) i e in
    let r = in-slot slots place s.0 s.1.0 in
    let more : IsIn (None ∷ slots) place (suc s.0) r.0 = record { within = omega (arith, r.1.within); slot = λ d. r.1.slot d; there = r.1.there; stands = r.1.stands } in
    rw (← s.1.1) (r.0, more)
in-slot (Some m ∷ slots) place i e = by_test (in-slot slots place) (same_place m.place place) refl e
  where
    by_test : ((j : ℕ) → slot_of slots place ≡ Some j → (n : Node) × IsIn slots place j n) → (b : Bool) → same_place m.place place ≡ b
        → (if b then Some 0 else option_map (λ k. k + 1) (slot_of slots place)) ≡ Some i → (n : Node) × IsIn (Some m ∷ slots) place i n
    by_test rest true h f =
        let z : 0 ≡ i = cc in
        let first : IsIn (Some m ∷ slots) place 0 m = record { within = omega arith; slot = λ d. refl; there = same_place-equal m.place place h; stands = rw h refl } in
        rw (← z) (m, first)
    by_test rest false h f =
        let s = shifted (slot_of slots place) i f in
        let r = rest s.0 s.1.0 in
        let more : IsIn (Some m ∷ slots) place (suc s.0) r.0 = record { within = omega (arith, r.1.within); slot = λ d. r.1.slot d; there = r.1.there; stands = rw h r.1.stands } in
        rw (← s.1.1) (r.0, more)

mapped-some : (o : Option ℕ) → is_some (option_map (λ i. i + 1) o) ≡ is_some o
mapped-some None = refl
mapped-some (Some i) = refl

-- a place has a slot exactly where something stands
pub slot_of-node_at : (slots : Slots) (place : Place) → is_some (slot_of slots place) ≡ is_some (node_at (somes slots) place)
slot_of-node_at [] place = refl
slot_of-node_at (None ∷ slots) place = mapped-some (slot_of slots place) ∙ slot_of-node_at slots place
slot_of-node_at (Some n ∷ slots) place = by_test (slot_of-node_at slots place) (same_place n.place place)
  where
    by_test : is_some (slot_of slots place) ≡ is_some (node_at (somes slots) place) → (b : Bool)
        → is_some (if b then Some 0 else option_map (λ i. i + 1) (slot_of slots place)) ≡ is_some (if b then Some n.standing else node_at (somes slots) place)
    by_test rest true = refl
    by_test rest false = mapped-some (slot_of slots place) ∙ rest

pub none-from : {A : Type 0} (o : Option A) → is_some o ≡ false → o ≡ None
none-from None h = refl
none-from (Some x) h = absurd (cc)

pub none-slot : (slots : Slots) (place : Place) → slot_of slots place ≡ None → node_at (somes slots) place ≡ None
none-slot slots place e = none-from (node_at (somes slots) place) (sym (slot_of-node_at slots place) ∙ ap is_some e)

pub absent-slot : (slots : Slots) (place : Place) → node_at (somes slots) place ≡ None → slot_of slots place ≡ None
absent-slot slots place e = none-from (slot_of slots place) (slot_of-node_at slots place ∙ ap is_some e)

-- ---- a node in the slot of another

pub somes-set : (slots : Slots) (n : Node) (i : ℕ) → slot_of slots n.place ≡ Some i → somes (slice_set slots i (Some n)) ≡ with_node (somes slots) n
somes-set [] n i e = absurd (cc)
somes-set (None ∷ slots) n i e =
    let s = shifted (slot_of slots n.place) i e in
    rw (← s.1.1) (somes-set slots n s.0 s.1.0)
somes-set (Some m ∷ slots) n i e = by_test (somes-set slots n) (same_place m.place n.place) refl e
  where
    by_test : ((j : ℕ) → slot_of slots n.place ≡ Some j → somes (slice_set slots j (Some n)) ≡ with_node (somes slots) n) → (b : Bool) → same_place m.place n.place ≡ b
        → (if b then Some 0 else option_map (λ k. k + 1) (slot_of slots n.place)) ≡ Some i → somes (slice_set (Some m ∷ slots) i (Some n)) ≡ with_node (somes (Some m ∷ slots)) n
    by_test rest true h f = let z : 0 ≡ i = cc in rw (← z) (rw h refl)
    by_test rest false h f =
        let s = shifted (slot_of slots n.place) i f in
        rw (← s.1.1) (rw h (ap (λ l. m ∷ l) (rest s.0 s.1.0)))

pub slot_of-set : (slots : Slots) (n : Node) (i : ℕ) (q : Place) → slot_of slots n.place ≡ Some i → slot_of (slice_set slots i (Some n)) q ≡ slot_of slots q
slot_of-set [] n i q e = absurd (cc)
slot_of-set (None ∷ slots) n i q e =
    let s = shifted (slot_of slots n.place) i e in
    rw (← s.1.1) (ap (λ o. option_map (λ k. k + 1) o) (slot_of-set slots n s.0 q s.1.0))
slot_of-set (Some m ∷ slots) n i q e = by_test (λ j f. slot_of-set slots n j q f) (same_place m.place n.place) refl e
  where
    by_test : ((j : ℕ) → slot_of slots n.place ≡ Some j → slot_of (slice_set slots j (Some n)) q ≡ slot_of slots q) → (b : Bool) → same_place m.place n.place ≡ b
        → (if b then Some 0 else option_map (λ k. k + 1) (slot_of slots n.place)) ≡ Some i → slot_of (slice_set (Some m ∷ slots) i (Some n)) q ≡ slot_of (Some m ∷ slots) q
    by_test rest true h f = let z : 0 ≡ i = cc in rw (← z) (ap (λ (p : Place). if same_place p q then Some 0 else option_map (λ k. k + 1) (slot_of slots q)) (sym (same_place-equal m.place n.place h)))
    by_test rest false h f =
        let s = shifted (slot_of slots n.place) i f in
        rw (← s.1.1) (ap (λ o. if same_place m.place q then Some 0 else option_map (λ k. k + 1) o) (rest s.0 s.1.0))

-- ---- one more slot

pub somes-push : (slots : Slots) (n : Node) → somes (slots ++ Some n ∷ []) ≡ somes slots ++ n ∷ []
somes-push [] n = refl
somes-push (None ∷ slots) n = somes-push slots n
somes-push (Some m ∷ slots) n = ap (λ l. m ∷ l) (somes-push slots n)

or-shift : (o : Option ℕ) (b : Bool) (k : ℕ) → option_map (λ i. i + 1) (option_or o (cond b (Some k) None)) ≡ option_or (option_map (λ i. i + 1) o) (cond b (Some (suc k)) None)
or-shift (Some i) b k = refl
or-shift None true k = ap Some (omega arith)
or-shift None false k = refl

or-first : (b : Bool) (o p : Option ℕ) (first : ℕ) → (if b then Some first else option_or o p) ≡ option_or (if b then Some first else o) p
or-first true o p first = refl
or-first false o p first = refl

slot_of-append : (slots : Slots) (n : Node) (q : Place) → slot_of (slots ++ Some n ∷ []) q ≡ option_or (slot_of slots q) (cond (same_place n.place q) (Some (length slots)) None)
slot_of-append [] n q = refl
slot_of-append (None ∷ slots) n q = ap (λ o. option_map (λ i. i + 1) o) (slot_of-append slots n q) ∙ or-shift (slot_of slots q) (same_place n.place q) (length slots)
slot_of-append (Some m ∷ slots) n q =
    ap (λ o. if same_place m.place q then Some 0 else o) (ap (λ o. option_map (λ i. i + 1) o) (slot_of-append slots n q) ∙ or-shift (slot_of slots q) (same_place n.place q) (length slots))
    ∙ or-first (same_place m.place q) (option_map (λ i. i + 1) (slot_of slots q)) (cond (same_place n.place q) (Some (suc (length slots))) None) 0

or-cond : (b : Bool) (found : Option ℕ) (count : ℕ) → (b ≡ true → found ≡ None) → option_or found (cond b (Some count) None) ≡ cond b (Some count) found
or-cond true found count h = rw (h refl) refl
or-cond false None count h = refl
or-cond false (Some i) count h = refl

-- where one more node is, its place has the last slot and the others keep theirs
pub slot_of-push : (slots : Slots) (n : Node) (q : Place) → slot_of slots n.place ≡ None → slot_of (slots ++ Some n ∷ []) q ≡ cond (same_place n.place q) (Some (length slots)) (slot_of slots q)
slot_of-push slots n q e =
    let absent : same_place n.place q ≡ true → slot_of slots q ≡ None = λ t. rw (← same_place-equal n.place q t) e in
    slot_of-append slots n q ∙ or-cond (same_place n.place q) (slot_of slots q) (length slots) absent

-- ---- slots that are cleared

pub somes-cleared : (there : Place) (slots : Slots) → somes (map (cleared there) slots) ≡ outside there (somes slots)
somes-cleared there [] = refl
somes-cleared there (None ∷ slots) = somes-cleared there slots
somes-cleared there (Some n ∷ slots) = by_test (somes-cleared there slots) (is_at_or_above there n.place)
  where
    by_test : somes (map (cleared there) slots) ≡ outside there (somes slots) → (b : Bool)
        → somes ((if b then None else Some n) ∷ map (cleared there) slots) ≡ (if not b then n ∷ outside there (somes slots) else outside there (somes slots))
    by_test rest true = rest
    by_test rest false = ap (λ l. n ∷ l) rest

none-either : (b : Bool) → (let nothing : Option ℕ = None in nothing) ≡ (if b then None else None)
none-either true = refl
none-either false = refl

map-either : (b : Bool) (o : Option ℕ) → option_map (λ i. i + 1) (if b then None else o) ≡ (if b then None else option_map (λ i. i + 1) o)
map-either true o = refl
map-either false o = refl

pub slot_of-cleared : (there : Place) (slots : Slots) (q : Place) → slot_of (map (cleared there) slots) q ≡ (if is_at_or_above there q then None else slot_of slots q)
slot_of-cleared there [] q = none-either (is_at_or_above there q)
slot_of-cleared there (None ∷ slots) q = ap (λ o. option_map (λ i. i + 1) o) (slot_of-cleared there slots q) ∙ map-either (is_at_or_above there q) (slot_of slots q)
slot_of-cleared there (Some n ∷ slots) q = by_tests (ap (λ o. option_map (λ i. i + 1) o) (slot_of-cleared there slots q) ∙ map-either (is_at_or_above there q) (slot_of slots q)) (is_at_or_above there n.place) refl (same_place n.place q) refl
  where
    same : (b : Bool) → is_at_or_above there n.place ≡ b → same_place n.place q ≡ true → is_at_or_above there q ≡ b
    same b h k = ap (is_at_or_above there) (sym (same_place-equal n.place q k)) ∙ h

    by_tests : option_map (λ i. i + 1) (slot_of (map (cleared there) slots) q) ≡ (if is_at_or_above there q then None else option_map (λ i. i + 1) (slot_of slots q))
        → (b : Bool) → is_at_or_above there n.place ≡ b → (c : Bool) → same_place n.place q ≡ c
        → slot_of ((if b then None else Some n) ∷ map (cleared there) slots) q ≡ (if is_at_or_above there q then None else (if c then Some 0 else option_map (λ i. i + 1) (slot_of slots q)))
    by_tests rest true h true k = rest ∙ rw (same true h k) refl
    by_tests rest true h false k = rest
    by_tests rest false h true k = rw (k, same false h k) refl
    by_tests rest false h false k = rw k rest

cleared-none : (there : Place) (slots : Slots) → ((place : Place) → is_some (node_at (somes slots) place) ≡ true → is_at_or_above there place ≡ false) → map (cleared there) slots ≡ slots
cleared-none there [] h = refl
cleared-none there (None ∷ slots) h = ap (λ l. None ∷ l) (cleared-none there slots h)
cleared-none there (Some n ∷ slots) h =
    let here : is_at_or_above there n.place ≡ false = h n.place (rw (same_place-refl n.place) refl) in
    rw here (ap (λ l. Some n ∷ l) (cleared-none there slots (λ place s. h place (by_test (same_place n.place place) place s))))
  where
    by_test : (b : Bool) (place : Place) → is_some (node_at (somes slots) place) ≡ true → is_some (if b then Some n.standing else node_at (somes slots) place) ≡ true
    by_test true place s = refl
    by_test false place s = s

pub stands-more : (m : Node) (ns : List Node) (place : Place) → is_some (node_at ns place) ≡ true → is_some (node_at (m ∷ ns) place) ≡ true
stands-more m ns place s = by_test (same_place m.place place)
  where
    by_test : (b : Bool) → is_some (if b then Some m.standing else node_at ns place) ≡ true
    by_test true = refl
    by_test false = s

pub leaf-tail : (m : Node) (ns : List Node) (there : Place) → IsLeaf (m ∷ ns) there → IsLeaf ns there
leaf-tail m ns there h = λ place s a. h place (stands-more m ns place s) a

-- where nothing stands at a place nor below it, there is nothing to clear
pub leaf-cleared : (slots : Slots) (there : Place) → IsLeaf (somes slots) there → node_at (somes slots) there ≡ None → map (cleared there) slots ≡ slots
leaf-cleared slots there leaf nothing = cleared-none there slots (λ place stands. by_test place stands (is_at_or_above there place) refl)
  where
    by_test : (place : Place) → is_some (node_at (somes slots) place) ≡ true → (b : Bool) → is_at_or_above there place ≡ b → b ≡ false
    by_test place stands false h = refl
    by_test place stands true h =
        let absent : is_some (node_at (somes slots) place) ≡ false = ap (λ (p : Place). is_some (node_at (somes slots) p)) (leaf place stands h) ∙ ap is_some nothing in
        absurd (not_both (is_some (node_at (somes slots) place)) stands absent)

-- where nothing stands below a place, to clear its slot is to clear all
pub set-cleared : (slots : Slots) (there : Place) (i : ℕ) → IsLeaf (somes slots) there → EachOnce (somes slots) → slot_of slots there ≡ Some i → slice_set slots i None ≡ map (cleared there) slots
set-cleared [] there i leaf once e = absurd (cc)
set-cleared (None ∷ slots) there i leaf once e =
    let s = shifted (slot_of slots there) i e in
    rw (← s.1.1) (ap (λ l. None ∷ l) (set-cleared slots there s.0 leaf once s.1.0))
set-cleared (Some m ∷ slots) there i leaf once e = by_test (λ j f. set-cleared slots there j (leaf-tail m (somes slots) there leaf) once.1 f) (same_place m.place there) refl e
  where
    above : (b : Bool) → is_at_or_above there m.place ≡ b → same_place m.place there ≡ false → b ≡ false
    above true h k = absurd (not_both (same_place m.place there) ((same_place-Decides m.place there).1 (leaf m.place (rw (same_place-refl m.place) refl) h)) k)
    above false h k = refl

    apart : (b : Bool) (place : Place) → m.place ≡ there → is_some (node_at (somes slots) place) ≡ true → is_at_or_above there place ≡ b → b ≡ false
    apart false place same s h = refl
    apart true place same s h =
        let here : place ≡ m.place = leaf place (stands-more m (somes slots) place s) h ∙ sym same in
        let nothing : is_some (node_at (somes slots) place) ≡ false = ap (λ (p : Place). is_some (node_at (somes slots) p)) here ∙ ap is_some once.0 in
        absurd (not_both (is_some (node_at (somes slots) place)) s nothing)

    by_test : ((j : ℕ) → slot_of slots there ≡ Some j → slice_set slots j None ≡ map (cleared there) slots) → (b : Bool) → same_place m.place there ≡ b
        → (if b then Some 0 else option_map (λ k. k + 1) (slot_of slots there)) ≡ Some i → slice_set (Some m ∷ slots) i None ≡ map (cleared there) (Some m ∷ slots)
    by_test rest true h f =
        let z : 0 ≡ i = cc in
        let same : m.place ≡ there = same_place-equal m.place there h in
        let here : is_at_or_above there m.place ≡ true = ap (is_at_or_above there) same ∙ above-refl there in
        let others : map (cleared there) slots ≡ slots = cleared-none there slots (λ place s. apart (is_at_or_above there place) place same s refl) in
        rw (← z) (rw (here, others) refl)
    by_test rest false h f =
        let s = shifted (slot_of slots there) i f in
        let away : is_at_or_above there m.place ≡ false = above (is_at_or_above there m.place) refl h in
        rw (← s.1.1) (rw away (ap (λ l. Some m ∷ l) (rest s.0 s.1.0)))

-- ---- slots without the empty ones

pub somes-filter : (slots : Slots) → somes (filter is_some slots) ≡ somes slots
somes-filter [] = refl
somes-filter (None ∷ slots) = somes-filter slots
somes-filter (Some n ∷ slots) = ap (λ l. n ∷ l) (somes-filter slots)

-- a place has a slot afterwards where it had one before
pub slot_of-filter : (slots : Slots) (q : Place) → is_some (slot_of slots q) ≡ is_some (slot_of (filter is_some slots) q)
slot_of-filter slots q =
    slot_of-node_at slots q ∙ ap (λ ns. is_some (node_at ns q)) (sym (somes-filter slots)) ∙ sym (slot_of-node_at (filter is_some slots) q)
