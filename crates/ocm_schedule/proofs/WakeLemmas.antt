-- When a schedule wakes.
use Rattle.std.proofs.Common.{◌≡◌, ℕ, zero, suc, ◌+◌, ◌<◌, ◌≤◌, Bool, true, false, List, [], ◌∷◌, length, refl, sym, ap, ◌∙◌, arith, subst, inl, inr, Some, None, Option, get_or}
use Rattle.std.specs.Prelude.{◌&&◌, ◌||◌, if◌then◌else◌, nat_lt, min, IfSome, IfNone}
use borrow.Author.Count.{below_more}
use Rattle.std.proofs.lemmas.Bool.{cases_lt, le-leb, leb-true, false≢true, false_from_ne_true}
use Rattle.std.proofs.lemmas.List.{get_or_past}
use Rattle.ocm_schedule.specs.declared.places.Place.{Place}
use Rattle.ocm_schedule.specs.Circles.{stands}
use Rattle.ocm_schedule.specs.Lanes.{Queue, has_rested, may_begin, first_moment, wakes_at}
use Rattle.ocm_schedule.specs.Schedules.{State, no_lane, lane_at, NoneMayBegin, sooner, IsSoonest}

-- where an exchange may begin, the lane wakes no later
ready_from : (b c : Bool) (now : ℕ) (ps : List Place) → (b && (c || has_rested now ps)) ≡ true → (t : ℕ) × ((if b then (if c then Some 0 else first_moment ps) else None) ≡ Some t) × (t ≤ now)
ready_from false c now ps h = absurd (false≢true h)
ready_from true true now ps h = (0, refl, omega arith)
ready_from true false now [] h = absurd (false≢true h)
ready_from true false now (p ∷ ps) h = (p.from, refl, leb-true p.from now h)

from_ready : (b c : Bool) (t : ℕ) (ps : List Place) → (if b then (if c then Some 0 else first_moment ps) else None) ≡ Some t → (b && (c || has_rested t ps)) ≡ true
from_ready false c t ps h = cc
from_ready true true t ps h = refl
from_ready true false t [] h = cc
from_ready true false t (p ∷ ps) h = let e : p.from ≡ t = cc in le-leb p.from t (omega (arith, e))

may_wake : (q : Queue) (now : ℕ) → may_begin now q ≡ true → (t : ℕ) × (wakes_at q ≡ Some t) × (t ≤ now)
may_wake q now h = ready_from (nat_lt q.busy q.seats) (stands q.circle) now q.resting h

wake_may : (q : Queue) (t : ℕ) → wakes_at q ≡ Some t → may_begin t q ≡ true
wake_may q t h = from_ready (nat_lt q.busy q.seats) (stands q.circle) t q.resting h

weaker : (o : Option ℕ) (t u : ℕ) → u ≤ t → IfSome o (λ v. t ≤ v) → IfSome o (λ v. u ≤ v)
weaker None t u h a = tt
weaker (Some v) t u h a = omega (arith, h, a)

-- one lane more
some_after : (lanes : List Queue) (n : ℕ) (o w : Option ℕ) → wakes_at (get_or lanes n no_lane) ≡ w → IsSoonest lanes n o → IsSoonest lanes (n + 1) (sooner o w)
some_after lanes n None None e h = below_more (λ k. wakes_at (get_or lanes k no_lane) ≡ None) n h e
some_after lanes n None (Some u) e h = (
  (n, omega arith, e),
  below_more (λ k. IfSome (wakes_at (get_or lanes k no_lane)) (λ v. u ≤ v)) n
      (λ k b. subst (λ (o : Option ℕ). IfSome o (λ v. u ≤ v)) (sym (h k b)) tt)
      (subst (λ (o : Option ℕ). IfSome o (λ v. u ≤ v)) (sym e) (omega arith)),
)
some_after lanes n (Some t) None e h =
    ((h.0.0, omega (arith, h.0.1), h.0.2), below_more (λ k. IfSome (wakes_at (get_or lanes k no_lane)) (λ v. t ≤ v)) n h.1 (subst (λ (o : Option ℕ). IfSome o (λ v. t ≤ v)) (sym e) tt))
some_after lanes n (Some t) (Some u) e h = (
  elim (cases_lt t u) [
    | inl less ↦ (h.0.0, omega (arith, h.0.1), h.0.2 ∙ ap Some (omega arith))
    | inr more ↦ (n, omega arith, e ∙ ap Some (omega arith))
  ],
  below_more (λ k. IfSome (wakes_at (get_or lanes k no_lane)) (λ v. min t u ≤ v)) n
      (λ k b. weaker (wakes_at (get_or lanes k no_lane)) t (min t u) (omega arith) (h.1 k b))
      (subst (λ (o : Option ℕ). IfSome o (λ v. min t u ≤ v)) (sym e) (omega arith)),
)

pub soonest_more : (lanes : List Queue) (n : ℕ) (o : Option ℕ) → IsSoonest lanes n o → IsSoonest lanes (n + 1) (sooner o (wakes_at (get_or lanes n no_lane)))
soonest_more lanes n o h = some_after lanes n o (wakes_at (get_or lanes n no_lane)) refl h

pub soonest_none : (lanes : List Queue) → IsSoonest lanes 0 None
soonest_none lanes k h = absurd (omega arith)

-- ---- what that says of a schedule

none_there : (t : ℕ) → wakes_at no_lane ≡ Some t → ⊥
none_there t h = cc

later : (o : Option ℕ) (t now : ℕ) → now < t → IfSome o (λ u. t ≤ u) → IfSome o (λ u. now < u)
later None t now h a = tt
later (Some u) t now h a = omega (arith, h, a)

-- before a moment before which no lane wakes none may begin
none_before : (s : State) (now : ℕ) → ((k : ℕ) → k < length s.lanes → IfSome (wakes_at (lane_at s k)) (λ u. now < u)) → NoneMayBegin now s
none_before s now h l =
    false_from_ne_true (may_begin now (lane_at s l)) (λ m.
    let w = may_wake (lane_at s l) now m in
    elim (cases_lt l (length s.lanes)) [
      | inl inside ↦ (let late : now < w.0 = subst (λ (o : Option ℕ). IfSome o (λ u. now < u)) w.1 (h l inside) in absurd (omega (arith, late, w.2)))
      | inr past ↦ absurd (none_there w.0 (sym (ap wakes_at (get_or_past s.lanes l no_lane past)) ∙ w.1))
    ])

pub says_none : (s : State) (r : Option ℕ) → IsSoonest s.lanes (length s.lanes) r → IfNone r ((now : ℕ) → NoneMayBegin now s)
says_none s (Some t) h = tt
says_none s None h = λ now. none_before s now (λ k b. subst (λ (o : Option ℕ). IfSome o (λ u. now < u)) (sym (h k b)) tt)

pub says_before : (s : State) (r : Option ℕ) → IsSoonest s.lanes (length s.lanes) r → IfSome r (λ wakes. (now : ℕ) → now < wakes → NoneMayBegin now s)
says_before s None h = tt
says_before s (Some t) h = λ now late. none_before s now (λ k b. later (wakes_at (lane_at s k)) t now late (h.1 k b))

pub says_then : (s : State) (r : Option ℕ) → IsSoonest s.lanes (length s.lanes) r → IfSome r (λ wakes. NoneMayBegin wakes s → ⊥)
says_then s None h = tt
says_then s (Some t) h = λ none. false≢true (sym (none h.0.0) ∙ wake_may (lane_at s h.0.0) t h.0.2)

-- an element that is there, whatever stands past the end
pub get_any : {A : Type 0} (xs : List A) (i : ℕ) (d e : A) → i < length xs → get_or xs i d ≡ get_or xs i e
get_any [] i d e h = absurd (omega arith)
get_any (x ∷ xs) zero d e h = refl
get_any (x ∷ xs) (suc i) d e h = get_any xs i d e (omega arith)
