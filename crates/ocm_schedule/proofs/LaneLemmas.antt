-- Lanes stay in order, and lose no place.
use Rattle.std.proofs.Common.{◌≡◌, ℕ, ◌+◌, ◌<◌, ◌≤◌, Bool, true, false, List, [], ◌∷◌, ◌++◌, length, refl, sym, ap, ◌∙◌, arith, cond, Some, None, Option}
use Rattle.std.specs.Prelude.{max, ◌==◌, ◌||◌, if◌then◌else◌, nat_le, count_by, sum_by}
use Rattle.std.specs.List.{AllByRecursion}
use Rattle.std.proofs.lemmas.Bool.{false≢true}
use Rattle.std.proofs.lemmas.List.{length-append}
use Rattle.std.proofs.lemmas.List.Sums.{sum_by-cons, sum_by_push, sum_by-append}
use Rattle.ocm_schedule.specs.declared.places.Place.{Place}
use Rattle.ocm_schedule.specs.Circles as circle
use Rattle.ocm_schedule.specs.Circles.{Line, some, first_of, behind, joined_first, stands, first_in, turned, places_in, OwnedWithin}
use Rattle.ocm_schedule.specs.Lanes.{Queue, InOrder, IsLane, moment, joined, has_rested, rest_at, with_rested, circle_at, roused, first_roused, is_awaited, first_host, host_of, begun, ended, places_of}

-- what holds of both holds of the one that is chosen
pub if_both : {A : Type 0} (P : A → Type 0) (b : Bool) (x y : A) → P x → P y → P (if b then x else y)
if_both P true x y p q = p
if_both P false x y p q = q

-- what holds of all and of one more
pub all_snoc : {A : Type 0} (P : A → Type 0) (xs : List A) (x : A) → AllByRecursion P xs → P x → AllByRecursion P (xs ++ x ∷ [])
all_snoc P [] x a p = (p, tt)
all_snoc P (y ∷ ys) x a p = (a.0, all_snoc P ys x a.1 p)

-- what follows from what holds of all
pub all_weaker : {A : Type 0} (P Q : A → Type 0) → ((x : A) → P x → Q x) → (xs : List A) → AllByRecursion P xs → AllByRecursion Q xs
all_weaker P Q f [] a = tt
all_weaker P Q f (x ∷ xs) a = (f x a.0, all_weaker P Q f xs a.1)

pub all_behind : (P : Place → Type 0) (ps : List Place) → AllByRecursion P ps → AllByRecursion P (behind ps)
all_behind P [] a = tt
all_behind P (p ∷ ps) a = a.1

pub all_rest : (P : Place → Type 0) (now : ℕ) (ps : List Place) → AllByRecursion P ps → AllByRecursion P (rest_at now ps)
all_rest P now [] a = tt
all_rest P now (p ∷ ps) a = if_both (AllByRecursion P) (nat_le p.from now) (rest_at now ps) (p ∷ ps) (all_rest P now ps a.1) a

-- places of so many owners, and of one more
pub owned_more : (m n : ℕ) (ps : List Place) (p : Place) → m ≤ n → p.owner < n → OwnedWithin m ps → OwnedWithin n (ps ++ p ∷ [])
owned_more m n ps p h i o =
    all_snoc (λ (q : Place). q.owner < n) ps p (all_weaker (λ (q : Place). q.owner < m) (λ (q : Place). q.owner < n) (λ q k. omega (arith, k, h)) ps o) i

pub length_snoc : (ps : List Place) (p : Place) → length (ps ++ p ∷ []) ≡ length ps + 1
length_snoc ps p = omega (arith, length-append ps (p ∷ []))

-- ---- order

order_snoc : (ps : List Place) (p : Place) → InOrder ps → AllByRecursion (λ (q : Place). q.from ≤ p.from) ps → InOrder (ps ++ p ∷ [])
order_snoc [] p o a = (tt, tt)
order_snoc (q ∷ qs) p o a = (all_snoc (λ (r : Place). q.from ≤ r.from) qs p o.0 a.0, order_snoc qs p o.1 a.1)

order_behind : (ps : List Place) → InOrder ps → InOrder (behind ps)
order_behind [] o = tt
order_behind (p ∷ ps) o = o.1

order_rest : (now : ℕ) (ps : List Place) → InOrder ps → InOrder (rest_at now ps)
order_rest now [] o = tt
order_rest now (p ∷ ps) o = if_both InOrder (nat_le p.from now) (rest_at now ps) (p ∷ ps) (order_rest now ps o.1) o

le_max_right : (m n : ℕ) → n ≤ max m n
le_max_right m n = omega arith

-- a lane stays one as a host joins
pub joined_is : (q : Queue) (owner host now : ℕ) → IsLane q → IsLane (joined q owner host now)
joined_is q owner host now l =
    let later : AllByRecursion (λ (p : Place). p.from ≤ moment q now) q.resting
    = all_weaker (λ (p : Place). p.from ≤ q.latest) (λ (p : Place). p.from ≤ moment q now) (λ p h. omega (arith, le_max_right (now + q.pause) q.latest)) q.resting l.past in
    let new : Place = record { from = moment q now; owner = owner; host = host } in
    record {
      fits = l.fits;
      order = order_snoc q.resting new l.order later;
      past = all_snoc (λ (p : Place). p.from ≤ moment q now) q.resting new later (omega arith);
    }

-- as those that have rested join the circle
pub first_roused_is : (q : Queue) → IsLane q → IsLane (first_roused q)
first_roused_is q l =
    record { fits = l.fits; order = order_behind q.resting l.order; past = all_behind (λ (p : Place). p.from ≤ q.latest) q.resting l.past }

-- as an exchange begins
pub begun_is : (now : ℕ) (q : Queue) → q.busy < q.seats → IsLane q → IsLane (begun now q)
begun_is now q h l =
    record { fits = omega arith; order = order_rest now q.resting l.order; past = all_rest (λ (p : Place). p.from ≤ q.latest) now q.resting l.past }

-- and as one ends
pub ended_is : (q : Queue) → IsLane q → IsLane (ended q)
ended_is q l = record { fits = omega (arith, l.fits); order = l.order; past = l.past }

-- ---- one by one

rouse_if : (b : Bool) (ps qs : List Place) (ls ms : List Line) → b ≡ true
    → ((if b then ps else qs) ≡ ps) × ((if b then ls else ms) ≡ ls)
rouse_if true ps qs ls ms e = (refl, refl)
rouse_if false ps qs ls ms e = absurd (false≢true e)

rouse_not : (b : Bool) (ps qs : List Place) (ls ms : List Line) → b ≡ false
    → ((if b then ps else qs) ≡ qs) × ((if b then ls else ms) ≡ ms)
rouse_not false ps qs ls ms e = (refl, refl)
rouse_not true ps qs ls ms e = absurd (false≢true (sym e))

-- those that rest, and the circle
abbrev parts : Queue → List Place → List Line → Queue
parts q ps ls = record { resting = ps; circle = ls; latest = q.latest; busy = q.busy; seats = q.seats; pause = q.pause }

parts_same : (q : Queue) (ps qs : List Place) (ls ms : List Line) → ps ≡ qs → ls ≡ ms → parts q ps ls ≡ parts q qs ms
parts_same q ps qs ls ms a b = ap (λ xs. parts q xs ls) a ∙ ap (λ xs. parts q qs xs) b

more_rested : (now : ℕ) (ps : List Place) (ls : List Line) → has_rested now ps ≡ true
    → (rest_at now (behind ps) ≡ rest_at now ps) × (with_rested now (behind ps) (joined_first ls ps) ≡ with_rested now ps ls)
more_rested now [] ls h = absurd (false≢true h)
more_rested now (p ∷ ps) ls h =
    let e = rouse_if (nat_le p.from now) (rest_at now ps) (p ∷ ps) (with_rested now ps (circle.joined ls p)) ls h in (sym e.0, sym e.1)

no_more_rested : (now : ℕ) (ps : List Place) (ls : List Line) → has_rested now ps ≡ false → (ps ≡ rest_at now ps) × (ls ≡ with_rested now ps ls)
no_more_rested now [] ls h = (refl, refl)
no_more_rested now (p ∷ ps) ls h =
    let e = rouse_not (nat_le p.from now) (rest_at now ps) (p ∷ ps) (with_rested now ps (circle.joined ls p)) ls h in (sym e.0, sym e.1)

pub rouse_more : (now : ℕ) (q : Queue) → has_rested now q.resting ≡ true → roused now (first_roused q) ≡ roused now q
rouse_more now q h =
    let e = more_rested now q.resting q.circle h in
    parts_same q (rest_at now (behind q.resting)) (rest_at now q.resting) (with_rested now (behind q.resting) (joined_first q.circle q.resting)) (circle_at now q) e.0 e.1

pub rouse_end : (now : ℕ) (q : Queue) → has_rested now q.resting ≡ false → q ≡ roused now q
rouse_end now q h = let e = no_more_rested now q.resting q.circle h in parts_same q q.resting (rest_at now q.resting) q.circle (circle_at now q) e.0 e.1

-- ---- no place is lost

sum_in : (f : Place → ℕ) (l : Line) (ls : List Line) → sum_by f (places_in (l ∷ ls)) ≡ sum_by f l.places + sum_by f (places_in ls)
sum_in f l ls = sum_by-append f l.places (places_in ls)

joined_if : (b : Bool) (f : Place → ℕ) (l : Line) (ls : List Line) (p : Place) → sum_by f (places_in (circle.joined ls p)) ≡ sum_by f (places_in ls) + f p
    → sum_by f (places_in (if b then record { owner = l.owner; places = l.places ++ p ∷ [] } ∷ ls else l ∷ circle.joined ls p)) ≡ sum_by f (places_in (l ∷ ls)) + f p
joined_if true f l ls p h =
    omega (arith, sum_in f (record { owner = l.owner; places = l.places ++ p ∷ [] }) ls, sum_in f l ls, sum_by_push f l.places p)
joined_if false f l ls p h = omega (arith, sum_in f l (circle.joined ls p), sum_in f l ls, h)

sum_joined : (f : Place → ℕ) (ls : List Line) (p : Place) → sum_by f (places_in (circle.joined ls p)) ≡ sum_by f (places_in ls) + f p
sum_joined f [] p = sum_by_push f [] p
sum_joined f (l ∷ ls) p = joined_if (l.owner == p.owner) f l ls p (sum_joined f ls p)

sum_snoc : (f : Place → ℕ) (ls : List Line) (l : Line) → sum_by f (places_in (ls ++ l ∷ [])) ≡ sum_by f (places_in ls) + sum_by f l.places
sum_snoc f [] l = omega (arith, sum_in f l [])
sum_snoc f (k ∷ ls) l = omega (arith, sum_in f k (ls ++ l ∷ []), sum_in f k ls, sum_snoc f ls l)

turned_if : (f : Place → ℕ) (a : ℕ) (p : Place) (ps : List Place) (ls : List Line)
    → sum_by f (places_in (if some ps then ls ++ record { owner = a; places = ps } ∷ [] else ls)) ≡ sum_by f ps + sum_by f (places_in ls)
turned_if f a p [] ls = omega arith
turned_if f a p (q ∷ qs) ls = omega (arith, sum_snoc f ls (record { owner = a; places = q ∷ qs }))

sum_turned_line : (f : Place → ℕ) (a : ℕ) (ps : List Place) (ls : List Line) (p : Place) → first_of ps ≡ Some p
    → sum_by f (places_in (record { owner = a; places = ps } ∷ ls)) ≡ sum_by f (places_in (turned (record { owner = a; places = ps } ∷ ls))) + f p
sum_turned_line f a [] ls p h = cc
sum_turned_line f a (q ∷ qs) ls p h =
    let e : f q ≡ f p = ap f cc in
    omega (arith, sum_in f (record { owner = a; places = q ∷ qs }) ls, turned_if f a q qs ls, sum_by-cons f q qs, e)

sum_turned : (f : Place → ℕ) (ls : List Line) (p : Place) → first_in ls ≡ Some p → sum_by f (places_in ls) ≡ sum_by f (places_in (turned ls)) + f p
sum_turned f [] p h = cc
sum_turned f (l ∷ ls) p h = sum_turned_line f l.owner l.places ls p h

sum_rested_if : (b : Bool) (f : Place → ℕ) (now : ℕ) (p : Place) (ps : List Place) (ls : List Line)
    → sum_by f (rest_at now ps) + sum_by f (places_in (with_rested now ps (circle.joined ls p))) ≡ sum_by f (p ∷ ps) + sum_by f (places_in ls)
    → sum_by f (if b then rest_at now ps else p ∷ ps) + sum_by f (places_in (if b then with_rested now ps (circle.joined ls p) else ls))
    ≡ sum_by f (p ∷ ps) + sum_by f (places_in ls)
sum_rested_if true f now p ps ls h = h
sum_rested_if false f now p ps ls h = refl

sum_rested : (f : Place → ℕ) (now : ℕ) (ps : List Place) (ls : List Line)
    → sum_by f (rest_at now ps) + sum_by f (places_in (with_rested now ps ls)) ≡ sum_by f ps + sum_by f (places_in ls)
sum_rested f now [] ls = refl
sum_rested f now (p ∷ ps) ls =
    sum_rested_if (nat_le p.from now) f now p ps ls (omega (arith, sum_rested f now ps (circle.joined ls p), sum_joined f ls p, sum_by-cons f p ps))

-- what is counted of all places of a lane
pub sum_of : (f : Place → ℕ) (q : Queue) → sum_by f (places_of q) ≡ sum_by f q.resting + sum_by f (places_in q.circle)
sum_of f q = sum_by-append f q.resting (places_in q.circle)

sum_roused : (f : Place → ℕ) (now : ℕ) (q : Queue) → sum_by f (places_of (roused now q)) ≡ sum_by f (places_of q)
sum_roused f now q = omega (arith, sum_of f (roused now q), sum_of f q, sum_rested f now q.resting q.circle)

-- a host that joins has one place more
pub sum_joined_lane : (f : Place → ℕ) (q : Queue) (owner host now : ℕ)
    → sum_by f (places_of (joined q owner host now)) ≡ sum_by f (places_of q) + f (record { from = moment q now; owner = owner; host = host })
sum_joined_lane f q owner host now =
    let new : Place = record { from = moment q now; owner = owner; host = host } in
    omega (arith, sum_of f (joined q owner host now), sum_of f q, sum_by_push f q.resting new)

-- the one that begins has one less
pub sum_begun_place : (f : Place → ℕ) (now : ℕ) (q : Queue) (p : Place) → first_in (circle_at now q) ≡ Some p → sum_by f (places_of q) ≡ sum_by f (places_of (begun now q)) + f p
sum_begun_place f now q p h =
    omega (arith, sum_roused f now q, sum_of f (roused now q), sum_of f (begun now q), sum_turned f (circle_at now q) p h)

-- the place that begins is that of the host
pub place_of : (o : Option Place) (h : ℕ) → host_of o ≡ Some h → (p : Place) × (o ≡ Some p) × (p.host ≡ h)
place_of None h e = cc
place_of (Some p) h e = (p, refl, cc)

pub begun_places : (now : ℕ) (q : Queue) (host h : ℕ) → first_host now q ≡ Some host
    → count_by (λ (p : Place). p.host == h) (places_of q) ≡ count_by (λ (p : Place). p.host == h) (places_of (begun now q)) + cond (host == h) 1 0
begun_places now q host h e =
    let p = place_of (first_in (circle_at now q)) host e in
    sum_begun_place (λ (p : Place). cond (p.host == h) 1 0) now q p.0 p.1
    ∙ ap (λ n. count_by (λ (p : Place). p.host == h) (places_of (begun now q)) + cond (n == h) 1 0) p.2

-- ---- how many places there are

length_is : (ps : List Place) → sum_by (λ (p : Place). 1) ps ≡ length ps
length_is [] = refl
length_is (p ∷ ps) = omega (arith, sum_by-cons (λ (p : Place). 1) p ps, length_is ps)

sum_first : (f : Place → ℕ) (ps : List Place) (ls : List Line) → sum_by f (behind ps) + sum_by f (places_in (joined_first ls ps)) ≡ sum_by f ps + sum_by f (places_in ls)
sum_first f [] ls = refl
sum_first f (p ∷ ps) ls = omega (arith, sum_by-cons f p ps, sum_joined f ls p)

pub length_first_roused : (q : Queue) → length (places_of (first_roused q)) ≡ length (places_of q)
length_first_roused q =
    let f : Place → ℕ = λ p. 1 in
    omega (arith, length_is (places_of (first_roused q)), length_is (places_of q), sum_of f (first_roused q), sum_of f q, sum_first f q.resting q.circle)

-- ---- who waits

stands_joined : (ls : List Line) (p : Place) → stands (circle.joined ls p) ≡ true
stands_joined [] p = refl
stands_joined (l ∷ ls) p = if_both (λ ms. stands ms ≡ true) (l.owner == p.owner) (record { owner = l.owner; places = l.places ++ p ∷ [] } ∷ ls) (l ∷ circle.joined ls p) refl refl

stands_more : (now : ℕ) (ps : List Place) (ls : List Line) → stands ls ≡ true → stands (with_rested now ps ls) ≡ true
stands_more now [] ls h = h
stands_more now (p ∷ ps) ls h =
    if_both (λ ms. stands ms ≡ true) (nat_le p.from now) (with_rested now ps (circle.joined ls p)) ls (stands_more now ps (circle.joined ls p) (stands_joined ls p)) h

stands_rested : (now : ℕ) (ps : List Place) (ls : List Line) → (stands ls || has_rested now ps) ≡ true → stands (with_rested now ps ls) ≡ true
stands_rested now ps (l ∷ ls) h = stands_more now ps (l ∷ ls) refl
stands_rested now [] [] h = absurd (false≢true h)
stands_rested now (p ∷ ps) [] h =
    ap stands ((rouse_if (nat_le p.from now) [] [] (with_rested now ps (circle.joined [] p)) [] h).1) ∙ stands_more now ps (circle.joined [] p) refl

-- somebody stands in the circle of a lane that is awaited
pub awaited_stands : (now : ℕ) (q : Queue) → is_awaited now q ≡ true → stands (circle_at now q) ≡ true
awaited_stands now q h = stands_rested now q.resting q.circle h
