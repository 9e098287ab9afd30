-- In each lane a place is that of a host of its owner.
use Rattle.std.proofs.Common.{◌≡◌, ℕ, ◌<◌, ◌≤◌, Bool, true, false, List, [], ◌∷◌, length, refl, sym, ap, ◌∙◌, arith, inl, inr, get_or, Some, None, Option}
use Rattle.std.specs.Prelude.{◌==◌, ◌&&◌, nat_lt, not, count_by, sum_by}
use Rattle.std.specs.List.{AllByRecursion}
use Rattle.std.proofs.Math.ListN.{set}
use Rattle.std.proofs.lemmas.Bool.{cases_eq, eq-eqb, ne_eqb, and_left, and_right, and_from, not_from_true, not_from_false, ltb-true}
use Rattle.std.proofs.lemmas.List.{get_or-set_other}
use Rattle.std.proofs.lemmas.List.Sums.{sum_by-cons}
use Rattle.ocm_schedule.specs.declared.places.Place.{Place}
use Rattle.ocm_schedule.specs.declared.schedules.Ending.{Ending}
use Rattle.ocm_schedule.specs.declared.schedules.Ending.TheVariants.{Failed}
use Rattle.ocm_schedule.specs.Circles.{first_in}
use Rattle.ocm_schedule.specs.Lanes.{Queue, joined, begun, ended, circle_at, places_of}
use Rattle.ocm_schedule.specs.Schedules.{Peer, State, no_lane, nobody, lane_at, host_at, is_none, is_idle, is_place_of, one_if, waits_in, left_jobs, without_seat, with_job, with_seat, given, given_if, assigned, first_lane, next_lane, join_if, added, IsSchedule}
use Rattle.ocm_schedule.specs.Runs.{World, Event, Adds, Due, Asks, Ended, Blames, Renews, Passes, who, begins, hands, settles, blames, renews, happens, run, started, PlacesAreOwn}
use Rattle.ocm_schedule.proofs.LaneLemmas.{sum_joined_lane, sum_begun_place, place_of}
use Rattle.ocm_schedule.proofs.ScheduleLemmas.{idle_parts, idle_waits, first_waits, waits_parts, known_if, known_busy}
use Rattle.ocm_schedule.proofs.MakeLemmas.{each_planned, made_is, new_at}
use Rattle.ocm_schedule.proofs.RunLemmas.{peer_same, who_parts}
use Rattle.ocm_schedule.proofs.JobLemmas.{keeps_happens}
use Rattle.ocm_schedule.proofs.KeptLemmas.{Each, each_set}

-- how many places of a host in a lane are not those of this owner
abbrev foreign : ℕ → ℕ → Queue → ℕ
foreign a h q = sum_by (λ (p : Place). one_if ((p.host == h) && not (p.owner == a))) (places_of q)

-- each place is that of its host's owner
abbrev Own : (ℕ → ℕ) → Queue → Type 0
Own owner q = (h : ℕ) → foreign (owner h) h q ≡ 0

never_foreign : (owner : ℕ → ℕ) (g h : ℕ) → one_if ((g == h) && not (owner g == owner h)) ≡ 0
never_foreign owner g h =
    elim (cases_eq g h) [
      | inl same ↦ ap one_if (and_right (g == h) (not (owner g == owner h)) (not_from_true (owner g == owner h) (eq-eqb (owner g) (owner h) (ap owner same))))
      | inr other ↦ ap one_if (and_left (g == h) (not (owner g == owner h)) (ne_eqb g h other))
    ]

own_joined : (owner : ℕ → ℕ) (q : Queue) (g now : ℕ) → Own owner q → Own owner (joined q (owner g) g now)
own_joined owner q g now f h =
    omega (arith, f h, never_foreign owner g h, sum_joined_lane (λ (p : Place). one_if ((p.host == h) && not (p.owner == owner h))) q (owner g) g now)

own_begun : (owner : ℕ → ℕ) (q : Queue) (now : ℕ) (p : Place) → first_in (circle_at now q) ≡ Some p → Own owner q → Own owner (begun now q)
own_begun owner q now p e f h =
    omega (arith, f h, sum_begun_place (λ (p : Place). one_if ((p.host == h) && not (p.owner == owner h))) now q p e)

few_if : (a b : Bool) → one_if (a && b) ≤ one_if a
few_if true true = omega arith
few_if true false = omega arith
few_if false b = omega arith

foreign_few : (a h : ℕ) (ps : List Place) → sum_by (λ (p : Place). one_if ((p.host == h) && not (p.owner == a))) ps ≤ count_by (is_place_of h) ps
foreign_few a h [] = omega arith
foreign_few a h (p ∷ ps) =
    omega (
      arith,
      foreign_few a h ps,
      few_if (p.host == h) (not (p.owner == a)),
      sum_by-cons (λ (p : Place). one_if ((p.host == h) && not (p.owner == a))) p ps,
      sum_by-cons (λ (p : Place). one_if (p.host == h)) p ps,
    )

-- ---- each step

abbrev owner_in : List Peer → ℕ → ℕ
owner_in hosts h = (get_or hosts h nobody).owner

abbrev AllOwn : (ℕ → ℕ) → List Queue → Type 0
AllOwn owner = Each (λ l. Own owner)

own_same : (old new : ℕ → ℕ) (lanes : List Queue) → ((h : ℕ) → new h ≡ old h) → AllOwn old lanes → AllOwn new lanes
own_same old new lanes e f l h = ap (λ a. foreign a h (get_or lanes l no_lane)) (e h) ∙ f l h

-- where a host waits nowhere its owner may change
own_idle : (s : State) (owner : ℕ → ℕ) → IsSchedule s → ((h : ℕ) → (owner h ≡ owner_in s.hosts h → ⊥) → (l : ℕ) → waits_in l (host_at s h) ≡ false) → AllOwn (owner_in s.hosts) s.lanes → AllOwn owner s.lanes
own_idle s owner i n f l h =
    elim (cases_eq (owner h) (owner_in s.hosts h)) [
      | inl same ↦ (ap (λ a. foreign a h (lane_at s l)) same ∙ f l h)
      | inr other ↦ (let none : one_if (waits_in l (host_at s h)) ≡ 0 = ap one_if (n h other l) in omega (arith, i.waits l h, none, foreign_few (owner h) h (places_of (lane_at s l))))
    ]

own_join_if : (b : Bool) (owner : ℕ → ℕ) (lanes : List Queue) (k g now : ℕ) → AllOwn owner lanes → AllOwn owner (join_if b lanes k (owner g) g now)
own_join_if false owner lanes k g now f = f
own_join_if true owner lanes k g now f =
    each_set (λ l. Own owner) lanes k (joined (get_or lanes k no_lane) (owner g) g now) f (own_joined owner (get_or lanes k no_lane) g now (f k))

abbrev OwnIn : State → Type 0
OwnIn s = AllOwn (owner_in s.hosts) s.lanes

kept_owner : (hosts : List Peer) (g : ℕ) (p : Peer) → g < length hosts → p.owner ≡ owner_in hosts g → (h : ℕ) → owner_in (set hosts g p) h ≡ owner_in hosts h
kept_owner hosts g p i e h = peer_same (λ (p : Peer). p.owner) hosts g h p i e

own_added : (s : State) (owner : ℕ) → IsSchedule s → OwnIn s → OwnIn (added s owner)
own_added s owner i f =
    let lane : ℕ = first_lane (length s.lanes) in
    own_idle s (owner_in (added s owner).hosts) i
    (λ h n l. elim (new_at s.hosts owner lane h) [
      | inl same ↦ absurd (n (ap (λ (p : Peer). p.owner) same))
      | inr new ↦ (ap (waits_in l) new.0 ∙ idle_waits l nobody refl)
    ])
    f

own_hands : (b : Bool) (g job : ℕ) (w : World) → nat_lt g (length w.state.hosts) ≡ b → OwnIn w.state → OwnIn (hands b g job w).state
own_hands false g job w e f = f
own_hands true g job w e f =
    let s : State = w.state in
    let p : Peer = host_at s g in
    own_same (owner_in s.hosts) (owner_in (set s.hosts g (with_job p job))) (join_if (is_idle p) s.lanes p.lane p.owner g w.now)
    (kept_owner s.hosts g (with_job p job) (ltb-true g (length s.hosts) e) refl) (own_join_if (is_idle p) (owner_in s.hosts) s.lanes p.lane g w.now f)

own_begins : (o : Option ℕ) (limit n : ℕ) (w : World) → who w.now w.state n ≡ o → IsSchedule w.state → OwnIn w.state → OwnIn (begins o limit n w).state
own_begins None limit n w e i f = f
own_begins (Some g) limit n w e i f =
    let s : State = w.state in
    let m = who_parts w.now s n g e in
    let x = waits_parts n (host_at s g) (first_waits s n w.now g i m.1) in
    let q : Queue = lane_at s n in
    let p = place_of (first_in (circle_at w.now q)) g m.1 in
    own_same (owner_in s.hosts) (owner_in (set s.hosts g (with_seat (host_at s g)))) (set s.lanes n (begun w.now q))
    (kept_owner s.hosts g (with_seat (host_at s g)) (known_if s g x.2) refl)
    (each_set (λ l. Own (owner_in s.hosts)) s.lanes n (begun w.now q) f (own_begun (owner_in s.hosts) q w.now p.0 p.1 (f n)))

own_settles : (b : Bool) (g : ℕ) (how : Ending) (stays : Bool) (w : World) → (host_at w.state g).busy ≡ b → OwnIn w.state → OwnIn (settles b g how stays w).state
own_settles false g how stays w e f = f
own_settles true g how stays w e f =
    let s : State = w.state in
    let p : Peer = host_at s g in
    let to : ℕ = next_lane how p.lane (length s.lanes) in
    let more : Bool = not (is_none (left_jobs stays p.jobs)) in
    let mid : List Queue = join_if more s.lanes to p.owner g w.now in
    let m = own_join_if more (owner_in s.hosts) s.lanes to g w.now f in
    own_same (owner_in s.hosts) (owner_in (set s.hosts g (without_seat p to stays))) (set mid p.lane (ended (get_or mid p.lane no_lane)))
    (kept_owner s.hosts g (without_seat p to stays) (known_busy s g e) refl)
    (each_set (λ l. Own (owner_in s.hosts)) mid p.lane (ended (get_or mid p.lane no_lane)) m (m p.lane))

own_given : (b : Bool) (s : State) (g owner l : ℕ) → is_idle (host_at s g) ≡ b → g < length s.hosts → IsSchedule s → OwnIn s → OwnIn (record { lanes = s.lanes; hosts = given_if b s.hosts g owner l })
own_given false s g owner l e inside i f = f
own_given true s g owner l e inside i f =
    let p : Peer = given (host_at s g) owner l in
    own_idle s (owner_in (set s.hosts g p)) i
    (λ h n k. elim (cases_eq h g) [
      | inl same ↦ (ap (λ j. waits_in k (host_at s j)) same ∙ idle_waits k (host_at s g) (idle_parts (host_at s g) e).1)
      | inr other ↦ absurd (n (ap (λ (p : Peer). p.owner) (get_or-set_other s.hosts g h p nobody other)))
    ])
    f

own_assigned : (s : State) (g owner l : ℕ) → g < length s.hosts → IsSchedule s → OwnIn s → OwnIn (assigned s g owner l)
own_assigned s g owner l inside i f = own_given (is_idle (host_at s g)) s g owner l refl inside i f

own_blames : (b : Bool) (g : ℕ) (w : World) → nat_lt g (length w.state.hosts) ≡ b → IsSchedule w.state → OwnIn w.state → OwnIn (blames b g w).state
own_blames false g w e i f = f
own_blames true g w e i f =
    let p : Peer = host_at w.state g in
    own_assigned w.state g p.owner (next_lane Failed p.lane (length w.state.lanes)) (ltb-true g (length w.state.hosts) e) i f

own_renews : (b : Bool) (g owner : ℕ) (w : World) → nat_lt g (length w.state.hosts) ≡ b → IsSchedule w.state → OwnIn w.state → OwnIn (renews b g owner w).state
own_renews false g owner w e i f = f
own_renews true g owner w e i f = own_assigned w.state g owner (first_lane (length w.state.lanes)) (ltb-true g (length w.state.hosts) e) i f

own_happens : (limit : ℕ) (w : World) (e : Event) → IsSchedule w.state → OwnIn w.state → OwnIn (happens limit w e).state
own_happens limit w (Adds owner) i f = own_added w.state owner i f
own_happens limit w (Due g job) i f = own_hands (nat_lt g (length w.state.hosts)) g job w refl f
own_happens limit w (Asks n) i f = own_begins (who w.now w.state n) limit n w refl i f
own_happens limit w (Ended g how stays) i f = own_settles (host_at w.state g).busy g how stays w refl f
own_happens limit w (Blames g) i f = own_blames (nat_lt g (length w.state.hosts)) g w refl i f
own_happens limit w (Renews g owner) i f = own_renews (nat_lt g (length w.state.hosts)) g owner w refl i f
own_happens limit w (Passes time) i f = f

own_run : (limit : ℕ) (w : World) (es : List Event) → IsSchedule w.state → OwnIn w.state → OwnIn (run limit w es).state
own_run limit w [] i f = f
own_run limit w (e ∷ es) i f = own_run limit (happens limit w e) es (keeps_happens limit w e i) (own_happens limit w e i f)

-- ---- in every run

is_own : (a : ℕ) (p : Place) → one_if ((p.host == p.host) && not (p.owner == a)) ≡ 0 → a ≡ p.owner
is_own a p e =
    elim (cases_eq p.owner a) [
      | inl same ↦ sym same
      | inr other ↦
          (let t : one_if ((p.host == p.host) && not (p.owner == a)) ≡ 1
          = ap one_if (and_from (p.host == p.host) (not (p.owner == a)) (eq-eqb p.host p.host refl) (not_from_false (p.owner == a) (ne_eqb p.owner a other))) in
          absurd (omega (arith, e, t)))
    ]

all_own : (owner : ℕ → ℕ) (ps : List Place) → ((h : ℕ) → sum_by (λ (p : Place). one_if ((p.host == h) && not (p.owner == owner h))) ps ≡ 0)
    → AllByRecursion (λ (p : Place). owner p.host ≡ p.owner) ps
all_own owner [] f = tt
all_own owner (p ∷ ps) f = (
  is_own (owner p.host) p (omega (arith, f p.host, sum_by-cons (λ (q : Place). one_if ((q.host == p.host) && not (q.owner == owner p.host))) p ps)),
  all_own owner ps (λ h. omega (arith, f h, sum_by-cons (λ (q : Place). one_if ((q.host == h) && not (q.owner == owner h))) p ps)),
)

pub places_are_own : PlacesAreOwn
places_are_own plans limit l events some =
    let w : World = run limit (started plans) events in
    let none = each_planned (λ q. (h : ℕ) → foreign 0 h q ≡ 0) (λ p h. refl) (λ h. refl) plans in
    all_own (owner_in w.state.hosts) (places_of (lane_at w.state l)) (own_run limit (started plans) events (made_is plans some) none l)
