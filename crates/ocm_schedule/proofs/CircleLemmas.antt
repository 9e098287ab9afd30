-- A circle as it is kept: an order of owners, and a list of places for each.
use Rattle.std.proofs.Common.{◌≡◌, ℕ, zero, suc, ◌+◌, ◌<◌, ◌≤◌, Bool, true, false, List, [], ◌∷◌, ◌++◌, length, refl, sym, ap, ◌∙◌, arith, subst, inl, inr, get_or, Some, None, Option}
use Rattle.std.specs.Prelude.{◌==◌, not, if◌then◌else◌, count_by, IsSome, IfSome}
use Rattle.std.proofs.Math.ListN.{set}
use Rattle.std.proofs.lemmas.Bool.{cases_eq, cases_lt, eq-eqb, ne_eqb, cases_Bool, false≢true}
use Rattle.std.proofs.lemmas.List.{get_or-set_same, get_or-set_other, get_or_past, length-append}
use Rattle.std.proofs.lemmas.List.Sums.{sum_by-cons, sum_by_push}
use Rattle.ocm_schedule.specs.declared.places.Place.{Place}
use Rattle.ocm_schedule.specs.Circles.{Line, some, behind, joined, turned, places_in, lines_of, IsCircle, HasSameLists, with_last, first_of, first_in, joined_first, OwnedWithin}

abbrev one : Bool → ℕ
one t = if t then 1 else 0

-- how often an owner stands in the order
abbrev many : ℕ → List ℕ → ℕ
many a order = count_by (λ b. b == a) order

abbrev own_of : List (List Place) → ℕ → List Place
own_of own a = get_or own a []

abbrev line_of : List (List Place) → ℕ → Line
line_of own a = record { owner = a; places = own_of own a }

many_cons : (a b : ℕ) (bs : List ℕ) → many a (b ∷ bs) ≡ one (b == a) + many a bs
many_cons a b bs = sum_by-cons (λ c. one (c == a)) b bs

many_snoc : (a b : ℕ) (bs : List ℕ) → many a (bs ++ b ∷ []) ≡ many a bs + one (b == a)
many_snoc a b bs = sum_by_push (λ c. one (c == a)) bs b

one_here : (a b : ℕ) → b ≡ a → one (b == a) ≡ 1
one_here a b e = ap (λ t. one t) (eq-eqb b a e)

none_there : (a b : ℕ) → (b ≡ a → ⊥) → one (b == a) ≡ 0
none_there a b n = ap (λ t. one t) (ne_eqb b a n)

-- an owner that stands nowhere is not the first
not_first : (a b : ℕ) (bs : List ℕ) → many a (b ∷ bs) ≡ 0 → b ≡ a → ⊥
not_first a b bs n e = absurd (omega (arith, n, many_cons a b bs, one_here a b e))

-- ---- where an owner stands nowhere

lines_apart : (own : List (List Place)) (a : ℕ) (v : List Place) (order : List ℕ) → many a order ≡ 0 → lines_of (set own a v) order ≡ lines_of own order
lines_apart own a v [] n = refl
lines_apart own a v (b ∷ bs) n =
    let other = not_first a b bs n in
    ap (λ (ps : List Place). record { owner = b; places = ps } ∷ lines_of (set own a v) bs) (get_or-set_other own a b v [] other)
    ∙ ap (λ ls. line_of own b ∷ ls) (lines_apart own a v bs (omega (arith, n, many_cons a b bs)))

joined_apart : (own : List (List Place)) (p : Place) (order : List ℕ) → many p.owner order ≡ 0
    → joined (lines_of own order) p ≡ lines_of own order ++ record { owner = p.owner; places = p ∷ [] } ∷ []
joined_apart own p [] n = refl
joined_apart own p (b ∷ bs) n =
    ap (λ t. if t then record { owner = b; places = own_of own b ++ p ∷ [] } ∷ lines_of own bs else line_of own b ∷ joined (lines_of own bs) p)
    (ne_eqb b p.owner (not_first p.owner b bs n))
    ∙ ap (λ ls. line_of own b ∷ ls) (joined_apart own p bs (omega (arith, n, many_cons p.owner b bs)))

lines_snoc : (own : List (List Place)) (a : ℕ) (order : List ℕ) → lines_of own (order ++ a ∷ []) ≡ lines_of own order ++ line_of own a ∷ []
lines_snoc own a [] = refl
lines_snoc own a (b ∷ bs) = ap (λ ls. line_of own b ∷ ls) (lines_snoc own a bs)

-- ---- a place joins

none_of : (ps : List Place) → some ps ≡ false → ps ≡ []
none_of [] e = refl
none_of (p ∷ ps) e = absurd (false≢true (sym e))

-- where its owner has none
joins_last : (own : List (List Place)) (order : List ℕ) (p : Place) → p.owner < length own → some (own_of own p.owner) ≡ false → IsCircle own order
    → lines_of (set own p.owner (own_of own p.owner ++ p ∷ [])) (order ++ p.owner ∷ []) ≡ joined (lines_of own order) p
joins_last own order p i e c =
    let a : ℕ = p.owner in
    let v : List Place = own_of own a ++ p ∷ [] in
    let none : many a order ≡ 0 = c a ∙ ap one e in
    lines_snoc (set own a v) a order
    ∙ ap (λ ls. ls ++ line_of (set own a v) a ∷ []) (lines_apart own a v order none)
    ∙ ap (λ (ps : List Place). lines_of own order ++ record { owner = a; places = ps } ∷ []) (get_or-set_same own a v [] i ∙ ap (λ ps. ps ++ p ∷ []) (none_of (own_of own a) e))
    ∙ sym (joined_apart own p order none)

-- where it has some
joins_own : (own : List (List Place)) (order : List ℕ) (p : Place) → p.owner < length own → many p.owner order ≡ 1
    → lines_of (set own p.owner (own_of own p.owner ++ p ∷ [])) order ≡ joined (lines_of own order) p
joins_own own [] p i m = absurd (omega (arith, m))
joins_own own (b ∷ bs) p i m =
    let a : ℕ = p.owner in
    let v : List Place = own_of own a ++ p ∷ [] in
    let after : List Line = record { owner = b; places = own_of own b ++ p ∷ [] } ∷ lines_of own bs in
    let later : List Line = line_of own b ∷ joined (lines_of own bs) p in
    elim (cases_eq b a) [
      | inl same ↦
          (ap (λ (ps : List Place). record { owner = b; places = ps } ∷ lines_of (set own a v) bs)
          (ap (λ n. own_of (set own a v) n) same ∙ get_or-set_same own a v [] i ∙ ap (λ n. own_of own n ++ p ∷ []) (sym same))
          ∙ ap (λ ls. record { owner = b; places = own_of own b ++ p ∷ [] } ∷ ls) (lines_apart own a v bs (omega (arith, m, many_cons a b bs, one_here a b same)))
          ∙ sym (ap (λ t. if t then after else later) (eq-eqb b a same)))
      | inr other ↦
          (ap (λ (ps : List Place). record { owner = b; places = ps } ∷ lines_of (set own a v) bs) (get_or-set_other own a b v [] other)
          ∙ ap (λ ls. line_of own b ∷ ls) (joins_own own bs p i (omega (arith, m, many_cons a b bs, none_there a b other)))
          ∙ sym (ap (λ t. if t then after else later) (ne_eqb b a other)))
    ]

some_snoc : (ps : List Place) (p : Place) → some (ps ++ p ∷ []) ≡ true
some_snoc [] p = refl
some_snoc (q ∷ qs) p = refl

-- what an order and lists are where those of one owner changed
circle_kept : (own : List (List Place)) (order next : List ℕ) (a : ℕ) (v : List Place) → a < length own → IsCircle own order
    → many a next ≡ one (some v) → ((c : ℕ) → (c ≡ a → ⊥) → many c next ≡ many c order) → IsCircle (set own a v) next
circle_kept own order next a v i c here there b =
    elim (cases_eq b a) [
      | inl same ↦
          (ap (λ n. many n next) same ∙ here ∙ ap (λ (ps : List Place). one (some ps)) (sym (ap (λ n. own_of (set own a v) n) same ∙ get_or-set_same own a v [] i)))
      | inr other ↦ (there b other ∙ c b ∙ ap (λ (ps : List Place). one (some ps)) (sym (get_or-set_other own a b v [] other)))
    ]

one_if_some : (ps : List Place) → some ps ≡ true → one (some ps) ≡ 1
one_if_some ps e = ap one e

last_kept : (own : List (List Place)) (order : List ℕ) (p : Place) → p.owner < length own → some (own_of own p.owner) ≡ false → IsCircle own order
    → IsCircle (set own p.owner (own_of own p.owner ++ p ∷ [])) (order ++ p.owner ∷ [])
last_kept own order p i e c =
    let a : ℕ = p.owner in
    circle_kept own order (order ++ a ∷ []) a (own_of own a ++ p ∷ []) i c
    (let none : many a order ≡ 0 = c a ∙ ap one e in omega (arith, none, many_snoc a a order, one_here a a refl, one_if_some (own_of own a ++ p ∷ []) (some_snoc (own_of own a) p)))
    (λ b other. omega (arith, many_snoc b a order, none_there b a (λ s. other (sym s))))

own_kept : (own : List (List Place)) (order : List ℕ) (p : Place) → p.owner < length own → many p.owner order ≡ 1 → IsCircle own order
    → IsCircle (set own p.owner (own_of own p.owner ++ p ∷ [])) order
own_kept own order p i m c =
    circle_kept own order order p.owner (own_of own p.owner ++ p ∷ []) i c (m ∙ sym (one_if_some (own_of own p.owner ++ p ∷ []) (some_snoc (own_of own p.owner) p))) (λ b other. refl)

-- ---- a turn

-- who stands in the order has places, and a list
pub first_some : (own : List (List Place)) (a : ℕ) (bs : List ℕ) → IsCircle own (a ∷ bs) → some (own_of own a) ≡ true
first_some own a bs c =
    elim (cases_Bool (some (own_of own a))) [
      | inl some_there ↦ some_there
      | inr nothing ↦ (let none : one (some (own_of own a)) ≡ 0 = ap one nothing in absurd (omega (arith, c a, none, many_cons a a bs, one_here a a refl)))
    ]

-- it stands there once
first_once : (own : List (List Place)) (a : ℕ) (bs : List ℕ) → IsCircle own (a ∷ bs) → many a bs ≡ 0
first_once own a bs c = omega (arith, c a, one_if_some (own_of own a) (first_some own a bs c), many_cons a a bs, one_here a a refl)

turns_on : (own : List (List Place)) (a : ℕ) (bs : List ℕ) → a < length own → IsCircle own (a ∷ bs) → some (behind (own_of own a)) ≡ true
    → lines_of (set own a (behind (own_of own a))) (bs ++ a ∷ []) ≡ turned (lines_of own (a ∷ bs))
turns_on own a bs i c e =
    let v : List Place = behind (own_of own a) in
    lines_snoc (set own a v) a bs
    ∙ ap (λ ls. ls ++ line_of (set own a v) a ∷ []) (lines_apart own a v bs (first_once own a bs c))
    ∙ ap (λ (ps : List Place). lines_of own bs ++ record { owner = a; places = ps } ∷ []) (get_or-set_same own a v [] i)
    ∙ sym (ap (λ t. if t then lines_of own bs ++ record { owner = a; places = v } ∷ [] else lines_of own bs) e)

turns_off : (own : List (List Place)) (a : ℕ) (bs : List ℕ) → IsCircle own (a ∷ bs) → some (behind (own_of own a)) ≡ false
    → lines_of (set own a (behind (own_of own a))) bs ≡ turned (lines_of own (a ∷ bs))
turns_off own a bs c e =
    let v : List Place = behind (own_of own a) in
    lines_apart own a v bs (first_once own a bs c) ∙ sym (ap (λ t. if t then lines_of own bs ++ record { owner = a; places = v } ∷ [] else lines_of own bs) e)

on_kept : (own : List (List Place)) (a : ℕ) (bs : List ℕ) → a < length own → IsCircle own (a ∷ bs) → some (behind (own_of own a)) ≡ true
    → IsCircle (set own a (behind (own_of own a))) (bs ++ a ∷ [])
on_kept own a bs i c e =
    circle_kept own (a ∷ bs) (bs ++ a ∷ []) a (behind (own_of own a)) i c
    (omega (arith, first_once own a bs c, many_snoc a a bs, one_here a a refl, one_if_some (behind (own_of own a)) e))
    (λ b other. omega (arith, many_snoc b a bs, many_cons b a bs))

off_kept : (own : List (List Place)) (a : ℕ) (bs : List ℕ) → a < length own → IsCircle own (a ∷ bs) → some (behind (own_of own a)) ≡ false
    → IsCircle (set own a (behind (own_of own a))) bs
off_kept own a bs i c e =
    circle_kept own (a ∷ bs) bs a (behind (own_of own a)) i c
    (first_once own a bs c ∙ sym (ap one e))
    (λ b other. omega (arith, many_cons b a bs, none_there b a (λ s. other (sym s))))

-- ---- lists of more owners

pub own_padded : (own : List (List Place)) (a : ℕ) → own_of (own ++ [] ∷ []) a ≡ own_of own a
own_padded [] zero = refl
own_padded [] (suc a) = refl
own_padded (ps ∷ own) zero = refl
own_padded (ps ∷ own) (suc a) = own_padded own a

pub lines_same : (old new : List (List Place)) (order : List ℕ) → HasSameLists old new → lines_of new order ≡ lines_of old order
lines_same old new [] h = refl
lines_same old new (b ∷ bs) h =
    ap (λ (ps : List Place). record { owner = b; places = ps } ∷ lines_of new bs) (h b) ∙ ap (λ ls. line_of old b ∷ ls) (lines_same old new bs h)

pub circle_same : (old new : List (List Place)) (order : List ℕ) → HasSameLists old new → IsCircle old order → IsCircle new order
circle_same old new order h c a = c a ∙ ap (λ (ps : List Place). one (some ps)) (sym (h a))

-- ---- all places

-- those of one owner are among them
own_few : (own : List (List Place)) (order : List ℕ) (a : ℕ) → 0 < many a order → length (own_of own a) ≤ length (places_in (lines_of own order))
own_few own [] a m = absurd (omega (arith, m))
own_few own (b ∷ bs) a m =
    let all = length-append (own_of own b) (places_in (lines_of own bs)) in
    elim (cases_eq b a) [
      | inl same ↦ (let e : length (own_of own a) ≡ length (own_of own b) = ap (λ n. length (own_of own n)) (sym same) in omega (arith, e, all))
      | inr other ↦ omega (arith, all, own_few own bs a (omega (arith, m, many_cons a b bs, none_there a b other)))
    ]

-- ---- for the functions

join_if : (t : Bool) (own : List (List Place)) (order : List ℕ) (p : Place) → some (own_of own p.owner) ≡ t → p.owner < length own → IsCircle own order
    → let next = with_last (not t) order p.owner in
    let new = set own p.owner (own_of own p.owner ++ p ∷ []) in
    (lines_of new next ≡ joined (lines_of own order) p) × IsCircle new next
join_if true own order p e i c = let m = c p.owner ∙ ap one e in (joins_own own order p i m, own_kept own order p i m c)
join_if false own order p e i c = (joins_last own order p i e c, last_kept own order p i e c)

-- the first of these places joins
pub join_is : (own new : List (List Place)) (order : List ℕ) (p : Place) (ps : List Place) → first_of ps ≡ Some p → OwnedWithin (length own) ps → IsCircle own order
    → IfSome (first_of ps) (λ q. new ≡ set own p.owner (own_of own p.owner ++ q ∷ []))
    → let next = with_last (not (some (own_of own p.owner))) order p.owner in
    (lines_of new next ≡ joined_first (lines_of own order) ps) × IsCircle new next
join_is own new order p [] e w c n = cc
join_is own new order p (q ∷ qs) e w c n =
    let same : q ≡ p = cc in
    let i : p.owner < length own = subst (λ (r : Place). r.owner < length own) same w.0 in
    let next : List ℕ = with_last (not (some (own_of own p.owner))) order p.owner in
    let m : new ≡ set own p.owner (own_of own p.owner ++ p ∷ []) = n ∙ ap (λ (r : Place). set own p.owner (own_of own p.owner ++ r ∷ [])) same in
    let r = join_if (some (own_of own p.owner)) own order p refl i c in (
      ap (λ o. lines_of o next) m ∙ r.0 ∙ ap (joined (lines_of own order)) (sym same),
      subst (λ (o : List (List Place)). IsCircle o next) (sym m) r.1,
    )

-- who stands in the order has a list
pub first_known : (own : List (List Place)) (order bs : List ℕ) (a : ℕ) → order ≡ a ∷ bs → IsCircle own order → a < length own
first_known own order bs a e c =
    elim (cases_lt a (length own)) [
      | inl inside ↦ inside
      | inr past ↦
          absurd (false≢true (sym (ap some (get_or_past own a [] past)) ∙ first_some own a bs (subst (λ (o : List ℕ). IsCircle own o) e c)))
    ]

turn_if : (t : Bool) (own : List (List Place)) (a : ℕ) (bs : List ℕ) → some (behind (own_of own a)) ≡ t → a < length own → IsCircle own (a ∷ bs)
    → let new = set own a (behind (own_of own a)) in
    (lines_of new (with_last t bs a) ≡ turned (lines_of own (a ∷ bs))) × IsCircle new (with_last t bs a)
turn_if true own a bs e i c = (turns_on own a bs i c e, on_kept own a bs i c e)
turn_if false own a bs e i c = (turns_off own a bs c e, off_kept own a bs i c e)

pub turn_is : (own new : List (List Place)) (order bs : List ℕ) (a : ℕ) → order ≡ a ∷ bs → IsCircle own order → new ≡ set own a (behind (own_of own a))
    → let next = with_last (some (own_of new a)) bs a in
    (lines_of new next ≡ turned (lines_of own order)) × IsCircle new next
turn_is own new order bs a e c n =
    let v : List Place = behind (own_of own a) in
    let i : a < length own = first_known own order bs a e c in
    let here : some (own_of new a) ≡ some v = ap (λ o. some (own_of o a)) n ∙ ap some (get_or-set_same own a v [] i) in
    let r = turn_if (some v) own a bs refl i (subst (λ (o : List ℕ). IsCircle own o) e c) in (
      ap (λ o. lines_of o (with_last (some (own_of new a)) bs a)) n ∙ ap (λ t. lines_of (set own a v) (with_last t bs a)) here ∙ r.0 ∙ ap (λ o. turned (lines_of own o)) (sym e),
      subst (λ (o : List (List Place)). IsCircle o (with_last (some (own_of new a)) bs a)) (sym n)
          (subst (λ (t : Bool). IsCircle (set own a v) (with_last t bs a)) (sym here) r.1),
    )

-- the first place of the first owner
pub first_is : (own : List (List Place)) (order bs : List ℕ) (a : ℕ) → order ≡ a ∷ bs → first_of (own_of own a) ≡ first_in (lines_of own order)
first_is own order bs a e = ap (λ o. first_in (lines_of own o)) (sym e)

some_first : (ps : List Place) (o : Option Place) → some ps ≡ true → o ≡ first_of ps → IsSome o
some_first [] o e f = absurd (false≢true e)
some_first (p ∷ ps) None e f = cc
some_first (p ∷ ps) (Some q) e f = refl

pub first_there : (own : List (List Place)) (order bs : List ℕ) (a : ℕ) (o : Option Place) → order ≡ a ∷ bs → IsCircle own order → o ≡ first_of (own_of own a) → IsSome o
first_there own order bs a o e c f = some_first (own_of own a) o (first_some own a bs (subst (λ (o : List ℕ). IsCircle own o) e c)) f

-- the places of an owner are no more than all
pub own_fit : (own : List (List Place)) (order : List ℕ) (a : ℕ) → IsCircle own order → length (own_of own a) ≤ length (places_in (lines_of own order))
own_fit own order a c =
    elim (cases_Bool (some (own_of own a))) [
      | inl some_there ↦ own_few own order a (omega (arith, c a, one_if_some (own_of own a) some_there))
      | inr nothing ↦ (let e : length (own_of own a) ≡ 0 = ap length (none_of (own_of own a) nothing) in omega (arith, e))
    ]
