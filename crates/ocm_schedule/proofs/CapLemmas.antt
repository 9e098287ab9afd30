-- In all no more exchanges are under way than there are seats, and in a lane no more hosts wait than there are.
use Rattle.std.proofs.Common.{◌≡◌, ℕ, zero, suc, ◌+◌, ◌<◌, ◌≤◌, Bool, true, false, List, [], ◌∷◌, length, refl, ap, arith, inl, inr, get_or, Some, None, Option}
use Rattle.std.proofs.lemmas.List.{get_or_past}
use Rattle.std.specs.Prelude.{◌==◌, ◌&&◌, count_by, sum_by, IfNone}
use Rattle.std.proofs.lemmas.Bool.{eq-eqb, cases_lt, cases_Bool}
use Rattle.std.proofs.lemmas.List.Sums.{sum_by-cons}
use Rattle.ocm_schedule.specs.declared.places.Place.{Place}
use Rattle.ocm_schedule.specs.Lanes.{Queue, may_begin, places_of}
use Rattle.ocm_schedule.specs.Schedules.{Peer, State, no_lane, nobody, lane_at, host_at, is_busy_in, is_place_of, waits_in, one_if, IsSchedule}
use Rattle.ocm_schedule.proofs.ScheduleLemmas.{known_if, waits_parts}

-- the sum of f below n
abbrev upto : ℕ → (ℕ → ℕ) → ℕ
upto zero f = 0
upto (suc n) f = f 0 + upto n (λ l. f (suc l))

upto_add : (n : ℕ) (f g h : ℕ → ℕ) → ((l : ℕ) → h l ≡ f l + g l) → upto n h ≡ upto n f + upto n g
upto_add zero f g h e = refl
upto_add (suc n) f g h e = omega (arith, e 0, upto_add n (λ l. f (suc l)) (λ l. g (suc l)) (λ l. h (suc l)) (λ l. e (suc l)))

upto_has : (n k : ℕ) (f : ℕ → ℕ) → k < n → f k ≤ upto n f
upto_has zero k f h = absurd (omega arith)
upto_has (suc n) zero f h = omega arith
upto_has (suc n) (suc k) f h = omega (arith, upto_has n k (λ l. f (suc l)) (omega arith))

-- one host has a seat of its lane
one_seat : (n : ℕ) (p : Peer) → p.lane < n → one_if p.busy ≤ upto n (λ l. one_if (is_busy_in l p))
one_seat n p h =
    let e : one_if (is_busy_in p.lane p) ≡ one_if p.busy = ap (λ b. one_if (b && p.busy)) (eq-eqb p.lane p.lane refl) in
    omega (arith, e, upto_has n p.lane (λ l. one_if (is_busy_in l p)) h)

count_cons : (test : Peer → Bool) (p : Peer) (ps : List Peer) → count_by test (p ∷ ps) ≡ one_if (test p) + count_by test ps
count_cons test p ps = sum_by-cons (λ q. one_if (test q)) p ps

busy_split : (n : ℕ) (ps : List Peer) → ((h : ℕ) → (get_or ps h nobody).lane < n) → count_by (λ (p : Peer). p.busy) ps ≤ upto n (λ l. count_by (is_busy_in l) ps)
busy_split n [] h = omega arith
busy_split n (p ∷ ps) h =
    let rest = busy_split n ps (λ j. h (suc j)) in
    let sum = upto_add n (λ l. one_if (is_busy_in l p)) (λ l. count_by (is_busy_in l) ps) (λ l. count_by (is_busy_in l) (p ∷ ps)) (λ l. count_cons (is_busy_in l) p ps) in
    omega (arith, rest, sum, one_seat n p (h 0), count_cons (λ (q : Peer). q.busy) p ps)

upto_least : (lanes : List Queue) (f : ℕ → ℕ) → ((l : ℕ) → f l ≤ (get_or lanes l no_lane).seats) → upto (length lanes) f ≤ sum_by (λ (q : Queue). q.seats) lanes
upto_least [] f h = omega arith
upto_least (q ∷ qs) f h = omega (arith, h 0, upto_least qs (λ l. f (suc l)) (λ l. h (suc l)), sum_by-cons (λ (r : Queue). r.seats) q qs)

pub no_more : (s : State) → IsSchedule s → count_by (λ (p : Peer). p.busy) s.hosts ≤ sum_by (λ (q : Queue). q.seats) s.lanes
no_more s i =
    omega (
      arith,
      busy_split (length s.lanes) s.hosts i.inside,
      upto_least s.lanes (λ l. count_by (is_busy_in l) s.hosts) (λ l. omega (arith, i.busy l, (i.lane l).fits)),
    )

-- ---- in a lane no more places are than there are hosts

abbrev places : ℕ → List Place → ℕ
places h ps = count_by (is_place_of h) ps

places_cons : (h : ℕ) (p : Place) (ps : List Place) → places h (p ∷ ps) ≡ one_if (p.host == h) + places h ps
places_cons h p ps = sum_by-cons (λ q. one_if (q.host == h)) p ps

upto_most : (n : ℕ) (f : ℕ → ℕ) → ((h : ℕ) → f h ≤ 1) → upto n f ≤ n
upto_most zero f h = omega arith
upto_most (suc n) f h = omega (arith, h 0, upto_most n (λ l. f (suc l)) (λ l. h (suc l)))

upto_places : (n : ℕ) (ps : List Place) → ((h : ℕ) → 0 < places h ps → h < n) → length ps ≤ upto n (λ h. places h ps)
upto_places n [] h = omega arith
upto_places n (p ∷ ps) h =
    let here : one_if (p.host == p.host) ≡ 1 = ap one_if (eq-eqb p.host p.host refl) in
    let rest = upto_places n ps (λ g m. h g (omega (arith, m, places_cons g p ps))) in
    let sum = upto_add n (λ g. one_if (p.host == g)) (λ g. places g ps) (λ g. places g (p ∷ ps)) (λ g. places_cons g p ps) in
    let inside : p.host < n = h p.host (omega (arith, here, places_cons p.host p ps)) in
    omega (arith, rest, sum, here, upto_has n p.host (λ g. one_if (p.host == g)) inside)

at_most_one : (b : Bool) → one_if b ≤ 1
at_most_one true = omega arith
at_most_one false = omega arith

waits_once : (s : State) (l h : ℕ) → IsSchedule s → 0 < places h (places_of (lane_at s l)) → h < length s.hosts
waits_once s l h i m =
    elim (cases_Bool (waits_in l (host_at s h))) [
      | inl does ↦ known_if s h (waits_parts l (host_at s h) does).2
      | inr not_so ↦ (let none : one_if (waits_in l (host_at s h)) ≡ 0 = ap one_if not_so in absurd (omega (arith, m, i.waits l h, none)))
    ]

pub few_places : (s : State) (l : ℕ) → IsSchedule s → length (places_of (lane_at s l)) ≤ length s.hosts
few_places s l i =
    let n : ℕ = length s.hosts in
    let ps : List Place = places_of (lane_at s l) in
    omega (arith, upto_places n ps (λ h m. waits_once s l h i m), upto_most n (λ h. places h ps) (λ h. omega (arith, i.waits l h, at_most_one (waits_in l (host_at s h)))))

-- ---- for the functions

pub none_over : (lanes : List Queue) (now : ℕ) → ((k : ℕ) → k < length lanes → may_begin now (get_or lanes k no_lane) ≡ false) → (l : ℕ) → may_begin now (get_or lanes l no_lane) ≡ false
none_over lanes now h l =
    elim (cases_lt l (length lanes)) [
      | inl inside ↦ h l inside
      | inr past ↦ ap (may_begin now) (get_or_past lanes l no_lane past)
    ]

pub if_none_any : {A : Type 0} (o : Option A) (P : Type 0) → P → IfNone o P
if_none_any None P p = p
if_none_any (Some x) P p = tt
