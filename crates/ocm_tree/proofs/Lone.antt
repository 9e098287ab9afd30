use Rattle.std.proofs.Common.{◌≡◌, ℕ, zero, suc, ◌+◌, ◌-◌, ◌<◌, ◌≤◌, List, [], ◌∷◌, length, map, take, drop, get_or, slice_set, Bool, true, false, not, ◌&&◌, ◌||◌, refl, sym, ap, ◌∙◌, arith}
use Rattle.std.specs.Prelude.{Option, Some, None, filter, sum_by, is_some, if◌then◌else◌, IfSome}
use Rattle.std.specs.List.{list_any}
use Rattle.std.proofs.Math.Seq.{drop-cons}
use Rattle.std.proofs.lemmas.List.Sums.{sum_by-cons}
use Rattle.ocm_entry.specs.declared.rows.Place.{Place}
use Rattle.ocm_entry.specs.declared.rows.Node.{Node}
use Rattle.ocm_rules.specs.Files.{is_at_or_above}
use Rattle.ocm_rules.specs.State.{EachOnce}
use Rattle.ocm_tree.specs.Tables.{Slots, somes, slot_of, slot_passes, cleared, IsLeaf, IsLone}
use Rattle.ocm_tree.specs.Orders.{numbers_where}
use Rattle.ocm_tree.specs.declared.amounts.Amount.{Amount}
use Rattle.ocm_tree.specs.Carries.{weight, weight_in, amount_in, makes_long}
use Rattle.ocm_tree.proofs.Removed.{above-refl}
use Rattle.ocm_tree.proofs.Slots.{in-slot, none-slot, leaf-cleared, set-cleared}

-- a test of the nodes at and below a place
abbrev pub below : Place → Node → Bool
below there n = is_at_or_above there n.place

-- the slot of a leaf has the only node at and below its place
pub leaf-IsLone : (slots : Slots) (there : Place) → IsLeaf (somes slots) there → EachOnce (somes slots) → (o : Option ℕ) → o ≡ slot_of slots there → IfSome o (IsLone slots there)
leaf-IsLone slots there leaf once None e = tt
leaf-IsLone slots there leaf once (Some i) e =
    let r = in-slot slots there i (sym e) in
    record {
      within = r.1.within;
      lies = rw (r.1.slot None) (ap (is_at_or_above there) r.1.there ∙ above-refl there);
      others = set-cleared slots there i leaf once (sym e);
    }

-- where nothing stands at a leaf's place, nothing stands below it
pub leaf-bare : (slots : Slots) (there : Place) → IsLeaf (somes slots) there → (o : Option ℕ) → o ≡ slot_of slots there → (b : Bool) → is_some o ≡ not b → b ≡ true → slots ≡ map (cleared there) slots
leaf-bare slots there leaf None e b none t = sym (leaf-cleared slots there leaf (none-slot slots there (sym e)))
leaf-bare slots there leaf (Some i) e true none t = absurd (cc)
leaf-bare slots there leaf (Some i) e false none t = absurd (cc)

-- a slot that is not cleared has no node at or below a place
pub not-below : (there : Place) (s : Option Node) → s ≡ cleared there s → slot_passes (below there) s ≡ false
not-below there None h = refl
not-below there (Some n) h = by_test (is_at_or_above there n.place) h
  where
    by_test : (b : Bool) → Some n ≡ (if b then None else Some n) → b ≡ false
    by_test true e = absurd (cc)
    by_test false e = refl

where-none : (there : Place) (slots : Slots) (ms : List ℕ) → slots ≡ map (cleared there) slots → numbers_where (slot_passes (below there)) slots ms ≡ []
where-none there [] ms h = refl
where-none there (s ∷ slots) [] h = refl
where-none there (s ∷ slots) (m ∷ ms) h =
    let first : s ≡ cleared there s = cc in
    let rest : slots ≡ map (cleared there) slots = cc in
    rw (not-below there s first) (where-none there slots ms rest)

-- the numbers of a lone node
pub where-lone : (there : Place) (slots : Slots) (ms : List ℕ) (i : ℕ) → length slots ≡ length ms → IsLone slots there i → numbers_where (slot_passes (below there)) slots ms ≡ get_or ms i 0 ∷ []
where-lone there slots ms i same lone = by_list slots ms i same lone.within lone.lies lone.others
  where
    by_list : (ss : Slots) (ns : List ℕ) (j : ℕ) → length ss ≡ length ns → j < length ss → slot_passes (below there) (get_or ss j None) ≡ true → slice_set ss j None ≡ map (cleared there) ss
        → numbers_where (slot_passes (below there)) ss ns ≡ get_or ns j 0 ∷ []
    by_list [] ns j same l lies h = absurd (omega (arith, l))
    by_list (s ∷ ss) [] j same l lies h = absurd (omega (arith, same))
    by_list (s ∷ ss) (n ∷ ns) zero same l lies h =
        let all : None ∷ ss ≡ cleared there s ∷ map (cleared there) ss = h in
        let rest : ss ≡ map (cleared there) ss = cc in
        rw lies (ap (λ l. n ∷ l) (where-none there ss ns rest))
    by_list (s ∷ ss) (n ∷ ns) (suc j) same l lies h =
        let all : s ∷ slice_set ss j None ≡ cleared there s ∷ map (cleared there) ss = h in
        let first : s ≡ cleared there s = cc in
        let rest : slice_set ss j None ≡ map (cleared there) ss = cc in
        rw (not-below there s first) (by_list ss ns j (omega (arith, same)) (omega (arith, l)) lies rest)

filter-none : (there : Place) (slots : Slots) → slots ≡ map (cleared there) slots → filter (below there) (somes slots) ≡ []
filter-none there [] h = refl
filter-none there (None ∷ slots) h = let rest : slots ≡ map (cleared there) slots = cc in filter-none there slots rest
filter-none there (Some n ∷ slots) h =
    let first : Some n ≡ cleared there (Some n) = cc in
    let rest : slots ≡ map (cleared there) slots = cc in
    rw (not-below there (Some n) first) (filter-none there slots rest)

-- a lone node is all that is at and below a place
pub filter-lone : (there : Place) (slots : Slots) (i : ℕ) → IsLone slots there i → filter (below there) (somes (take 1 (drop i slots))) ≡ filter (below there) (somes slots)
filter-lone there slots i lone = rw (drop-cons slots i None lone.within) (by_list slots i lone.within lone.lies lone.others)
  where
    by_list : (ss : Slots) (j : ℕ) → j < length ss → slot_passes (below there) (get_or ss j None) ≡ true → slice_set ss j None ≡ map (cleared there) ss
        → filter (below there) (somes (get_or ss j None ∷ [])) ≡ filter (below there) (somes ss)
    by_list [] j l lies h = absurd (omega (arith, l))
    by_list (None ∷ ss) zero l lies h = absurd (cc)
    by_list (Some n ∷ ss) zero l lies h =
        let all : None ∷ ss ≡ cleared there (Some n) ∷ map (cleared there) ss = h in
        let rest : ss ≡ map (cleared there) ss = cc in
        rw (lies, filter-none there ss rest) refl
    by_list (None ∷ ss) (suc j) l lies h =
        let all : None ∷ slice_set ss j None ≡ None ∷ map (cleared there) ss = h in
        let rest : slice_set ss j None ≡ map (cleared there) ss = cc in
        by_list ss j (omega (arith, l)) lies rest
    by_list (Some n ∷ ss) (suc j) l lies h =
        let all : Some n ∷ slice_set ss j None ≡ cleared there (Some n) ∷ map (cleared there) ss = h in
        let first : Some n ≡ cleared there (Some n) = cc in
        let rest : slice_set ss j None ≡ map (cleared there) ss = cc in
        rw (not-below there (Some n) first) (by_list ss j (omega (arith, l)) lies rest)

-- a node that is neither at nor below the places of a copy or move stays, and is not copied
alike : (what : Amount) (from to : Place) (moving : Bool) (s : Option Node) → s ≡ cleared from s → s ≡ cleared to s → amount_in what from to moving s ≡ weight_in what to s
alike what from to moving None h k = refl
alike what from to moving (Some n) h k = rw (not-below from (Some n) h, not-below to (Some n) k) (stayed moving (weight what to n))
  where
    stayed : (b : Bool) (w : ℕ) → (if not false && not (b && false) then w else 0) + 0 ≡ w
    stayed true w = omega arith
    stayed false w = omega arith

sum-alike : (what : Amount) (from to : Place) (moving : Bool) (slots : Slots) → slots ≡ map (cleared from) slots → slots ≡ map (cleared to) slots → sum_by (amount_in what from to moving) slots ≡ sum_by (weight_in what to) slots
sum-alike what from to moving [] h k = refl
sum-alike what from to moving (s ∷ slots) h k =
    let first : s ≡ cleared from s = cc in
    let also : s ≡ cleared to s = cc in
    let here = alike what from to moving s first also in
    let rest : slots ≡ map (cleared from) slots = cc in
    let more : slots ≡ map (cleared to) slots = cc in
    let others = sum-alike what from to moving slots rest more in
    let left = sum_by-cons (amount_in what from to moving) s slots in
    let right = sum_by-cons (weight_in what to) s slots in
    omega (arith, here, others, left, right)

-- where a lone node is copied or moved, the amounts differ by what it adds
pub sum-lone : (what : Amount) (from to : Place) (moving : Bool) (slots : Slots) (i : ℕ) → IsLone slots from i → slots ≡ map (cleared to) slots →
    sum_by (amount_in what from to moving) slots + weight_in what to (get_or slots i None) ≡ sum_by (weight_in what to) slots + amount_in what from to moving (get_or slots i None)
sum-lone what from to moving slots i lone bare = by_list slots i lone.within lone.others bare
  where
    by_list : (ss : Slots) (j : ℕ) → j < length ss → slice_set ss j None ≡ map (cleared from) ss → ss ≡ map (cleared to) ss →
        sum_by (amount_in what from to moving) ss + weight_in what to (get_or ss j None) ≡ sum_by (weight_in what to) ss + amount_in what from to moving (get_or ss j None)
    by_list [] j l h k = absurd (omega (arith, l))
    by_list (s ∷ ss) zero l h k =
        let all : None ∷ ss ≡ cleared from s ∷ map (cleared from) ss = h in
        let rest : ss ≡ map (cleared from) ss = cc in
        let more : ss ≡ map (cleared to) ss = cc in
        let others = sum-alike what from to moving ss rest more in
        let left = sum_by-cons (amount_in what from to moving) s ss in
        let right = sum_by-cons (weight_in what to) s ss in
        omega (arith, others, left, right)
    by_list (s ∷ ss) (suc j) l h k =
        let all : s ∷ slice_set ss j None ≡ cleared from s ∷ map (cleared from) ss = h in
        let first : s ≡ cleared from s = cc in
        let also : s ≡ cleared to s = cc in
        let here = alike what from to moving s first also in
        let rest : slice_set ss j None ≡ map (cleared from) ss = cc in
        let more : ss ≡ map (cleared to) ss = cc in
        let others = by_list ss j (omega (arith, l)) rest more in
        let left = sum_by-cons (amount_in what from to moving) s ss in
        let right = sum_by-cons (weight_in what to) s ss in
        omega (arith, here, others, left, right)

short : (from to : Place) (s : Option Node) → s ≡ cleared from s → makes_long from to s ≡ false
short from to None h = refl
short from to (Some n) h = rw (not-below from (Some n) h) refl

any-none : (from to : Place) (slots : Slots) → slots ≡ map (cleared from) slots → list_any (makes_long from to) slots ≡ false
any-none from to [] h = refl
any-none from to (s ∷ slots) h =
    let first : s ≡ cleared from s = cc in
    let rest : slots ≡ map (cleared from) slots = cc in
    rw (short from to s first) (any-none from to slots rest)

-- only a lone node can be copied to a path that is too long
pub any-lone : (from to : Place) (slots : Slots) (i : ℕ) → IsLone slots from i → makes_long from to (get_or slots i None) ≡ list_any (makes_long from to) slots
any-lone from to slots i lone = by_list slots i lone.within lone.others
  where
    either : (b : Bool) → b ≡ (b || false)
    either true = refl
    either false = refl

    by_list : (ss : Slots) (j : ℕ) → j < length ss → slice_set ss j None ≡ map (cleared from) ss → makes_long from to (get_or ss j None) ≡ list_any (makes_long from to) ss
    by_list [] j l h = absurd (omega (arith, l))
    by_list (s ∷ ss) zero l h =
        let all : None ∷ ss ≡ cleared from s ∷ map (cleared from) ss = h in
        let rest : ss ≡ map (cleared from) ss = cc in
        rw (any-none from to ss rest) (either (makes_long from to s))
    by_list (s ∷ ss) (suc j) l h =
        let all : s ∷ slice_set ss j None ≡ cleared from s ∷ map (cleared from) ss = h in
        let first : s ≡ cleared from s = cc in
        let rest : slice_set ss j None ≡ map (cleared from) ss = cc in
        rw (short from to s first) (by_list ss j (omega (arith, l)) rest)

slot-at : (slots : Slots) (i : ℕ) (d e : Option Node) → i < length slots → get_or slots i d ≡ get_or slots i e
slot-at [] i d e l = absurd (omega (arith, l))
slot-at (s ∷ slots) zero d e l = refl
slot-at (s ∷ slots) (suc i) d e l = slot-at slots i d e (omega (arith, l))

-- what a slot adds is no more than all
pub part-within : (f : Option Node → ℕ) (slots : Slots) (i : ℕ) (d : Option Node) → i < length slots → f (get_or slots i d) ≤ sum_by f slots
part-within f [] i d l = absurd (omega (arith, l))
part-within f (s ∷ slots) zero d l = let all = sum_by-cons f s slots in omega (arith, all)
part-within f (s ∷ slots) (suc i) d l =
    let rest = part-within f slots i d (omega (arith, l)) in
    let all = sum_by-cons f s slots in
    omega (arith, rest, all)

-- an amount after the copy or move of a lone node, by what its slot adds before and after
pub amount-lone : (what : Amount) (from to : Place) (moving : Bool) (slots : Slots) (i : ℕ) (x y : Option Node) (all older newer : ℕ) → IsLone slots from i → slots ≡ map (cleared to) slots → x ≡ get_or slots i x → y ≡ get_or slots i y →
    all ≡ sum_by (weight_in what to) slots → older ≡ weight_in what to x → newer ≡ amount_in what from to moving y → all - older + newer ≡ sum_by (amount_in what from to moving) slots
amount-lone what from to moving slots i x y all older newer lone bare hx hy e f g =
    let before = ap (weight_in what to) (hx ∙ slot-at slots i x None lone.within) in
    let later = ap (amount_in what from to moving) (hy ∙ slot-at slots i y None lone.within) in
    let within = part-within (weight_in what to) slots i None lone.within in
    let sums = sum-lone what from to moving slots i lone bare in
    omega (arith, before, later, within, sums, e, f, g)

-- whether a copy of a lone node has a path that is too long
pub long-lone : (from to : Place) (slots : Slots) (i : ℕ) (y : Option Node) → IsLone slots from i → y ≡ get_or slots i y → makes_long from to y ≡ list_any (makes_long from to) slots
long-lone from to slots i y lone h = ap (makes_long from to) (h ∙ slot-at slots i y None lone.within) ∙ any-lone from to slots i lone
