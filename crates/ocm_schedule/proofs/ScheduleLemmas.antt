-- Schedules stay what they are: each host that waits stands in its lane once, and each seat that is taken is that of a host.
use Rattle.std.proofs.Common.{◌≡◌, ℕ, ◌+◌, ◌<◌, ◌≤◌, Bool, true, false, List, [], ◌∷◌, ◌++◌, length, refl, sym, ap, ◌∙◌, arith, subst, inl, inr, Some, Result, Ok, Err, get_or, cond}
use Rattle.std.specs.Prelude.{OnOk, OnErr, ◌&&◌, ◌==◌, not, nat_lt, count_by}
use Rattle.std.proofs.Math.ListN.{set, length-set}
use Rattle.std.proofs.lemmas.Bool.{ltb-true, and_parts, and_left, and_right, and_from, eq-eqb, ne_eqb, eqb-true, cases_eq, cases_lt, cases_Bool, false≢true, not_from_true, not_from_false}
use Rattle.std.proofs.lemmas.List.{get_or-set_same, get_or-set_other, get_or_past}
use Rattle.std.proofs.lemmas.List.Sums.{sum_by-set}
use Rattle.ocm_schedule.specs.declared.schedules.Ending.{Ending}
use Rattle.ocm_schedule.specs.declared.schedules.Ending.TheVariants.{Soon, Late, Failed}
use Rattle.ocm_schedule.specs.declared.places.Place.{Place}
use Rattle.ocm_schedule.specs.Lanes.{Queue, IsLane, joined, begun, ended, first_host, may_begin, is_awaited, places_of}
use Rattle.ocm_schedule.specs.Schedules.{Peer, State, no_lane, nobody, lane_at, host_at, is_none, waits_in, is_busy_in, is_place_of, one_if, IsSchedule, with_job, with_seat, without_seat, is_idle, join_if, end_at, handed, seated, next_lane, first_lane, settled, given, given_if, assigned, blamed, renewed}
use Rattle.ocm_schedule.proofs.LaneLemmas.{joined_is, begun_is, ended_is, sum_joined_lane, begun_places}

-- what holds of what is written and of what stood there holds of each element
pub hold_set : {A : Type 0} (P : A → Type 0) (xs : List A) (i j : ℕ) (v d : A) → i < length xs → P v → P (get_or xs j d) → P (get_or (set xs i v) j d)
hold_set P xs i j v d h p q =
    elim (cases_eq j i) [
      | inl same ↦ subst (λ n. P (get_or (set xs i v) n d)) (sym same) (subst P (sym (get_or-set_same xs i v d h)) p)
      | inr other ↦ subst P (sym (get_or-set_other xs i j v d other)) q
    ]

-- one with a seat has a job
abbrev pub Holds : Peer → Type 0
Holds p = p.busy ≡ true → is_none p.jobs ≡ false

-- ---- what a host is in a lane

not_true : (b : Bool) → not b ≡ true → b ≡ false
not_true true h = absurd (false≢true h)
not_true false h = refl

pub waits_parts : (l : ℕ) (p : Peer) → waits_in l p ≡ true → (p.lane ≡ l) × (p.busy ≡ false) × (is_none p.jobs ≡ false)
waits_parts l p h =
    let a = and_parts (p.lane == l) (not p.busy && not (is_none p.jobs)) h in
    let b = and_parts (not p.busy) (not (is_none p.jobs)) a.1 in
    (eqb-true p.lane l a.0, not_true p.busy b.0, not_true (is_none p.jobs) b.1)

-- one that is elsewhere waits not here
elsewhere : (l : ℕ) (p : Peer) → (p.lane ≡ l → ⊥) → waits_in l p ≡ false
elsewhere l p h = and_left (p.lane == l) (not p.busy && not (is_none p.jobs)) (ne_eqb p.lane l h)

-- one that has a seat waits nowhere
seated_waits : (l : ℕ) (p : Peer) → p.busy ≡ true → waits_in l p ≡ false
seated_waits l p h = and_right (p.lane == l) (not p.busy && not (is_none p.jobs)) (and_left (not p.busy) (not (is_none p.jobs)) (not_from_true p.busy h))

-- nor does one without a job
pub idle_waits : (l : ℕ) (p : Peer) → is_none p.jobs ≡ true → waits_in l p ≡ false
idle_waits l p h = and_right (p.lane == l) (not p.busy && not (is_none p.jobs)) (and_right (not p.busy) (not (is_none p.jobs)) (not_from_true (is_none p.jobs) h))

-- one with jobs and no seat waits in its lane
here_waits : (l : ℕ) (p : Peer) → p.lane ≡ l → p.busy ≡ false → is_none p.jobs ≡ false → waits_in l p ≡ true
here_waits l p a b c =
    and_from (p.lane == l) (not p.busy && not (is_none p.jobs)) (eq-eqb p.lane l a)
    (and_from (not p.busy) (not (is_none p.jobs)) (not_from_false p.busy b) (not_from_false (is_none p.jobs) c))

-- ---- the lanes

-- so many, or none
abbrev pub some_if : Bool → ℕ → ℕ
some_if b n = cond b n 0

-- how often a host stands in a lane
abbrev places : ℕ → Queue → ℕ
places h q = count_by (is_place_of h) (places_of q)

-- one that joins stands there once more, and the others as before
joined_places : (q : Queue) (owner host now h : ℕ) → places h (joined q owner host now) ≡ places h q + cond (host == h) 1 0
joined_places q owner host now h = sum_joined_lane (λ (p : Place). cond (p.host == h) 1 0) q owner host now

-- what stands at a place that was written, and elsewhere
at_set : (xs : List Queue) (l k : ℕ) (v : Queue) → l < length xs → k ≡ l → get_or (set xs l v) k no_lane ≡ v
at_set xs l k v i same = ap (λ n. get_or (set xs l v) n no_lane) same ∙ get_or-set_same xs l v no_lane i

pub test_same : (l k : ℕ) → k ≡ l → (l == k) ≡ true
test_same l k e = eq-eqb l k (sym e)

pub test_other : (l k : ℕ) → (k ≡ l → ⊥) → (l == k) ≡ false
test_other l k h = ne_eqb l k (λ e. h (sym e))

-- what a number is where one lane was written: f of it grows by n
pub grown : (f : Queue → ℕ) (lanes : List Queue) (l k n : ℕ) (v : Queue) → l < length lanes → f v ≡ f (get_or lanes l no_lane) + n
    → f (get_or (set lanes l v) k no_lane) ≡ f (get_or lanes k no_lane) + cond (l == k) n 0
grown f lanes l k n v i h =
    elim (cases_eq k l) [
      | inl same ↦
          (ap f (at_set lanes l k v i same) ∙ h ∙ ap (λ j. f (get_or lanes j no_lane) + n) (sym same)
          ∙ sym (ap (λ b. f (get_or lanes k no_lane) + cond b n 0) (test_same l k same)))
      | inr other ↦
          (let e : cond (l == k) n 0 ≡ 0 = ap (λ b. cond b n 0) (test_other l k other) in
          ap f (get_or-set_other lanes l k v no_lane other) ∙ omega (arith, e))
    ]

-- and where it shrinks by n
pub shrunk : (f : Queue → ℕ) (lanes : List Queue) (l k n : ℕ) (v : Queue) → l < length lanes → f (get_or lanes l no_lane) ≡ f v + n
    → f (get_or lanes k no_lane) ≡ f (get_or (set lanes l v) k no_lane) + cond (l == k) n 0
shrunk f lanes l k n v i h =
    elim (cases_eq k l) [
      | inl same ↦
          (ap (λ j. f (get_or lanes j no_lane)) same ∙ h ∙ ap (λ q. f q + n) (sym (at_set lanes l k v i same))
          ∙ sym (ap (λ b. f (get_or (set lanes l v) k no_lane) + cond b n 0) (test_same l k same)))
      | inr other ↦
          (let e : cond (l == k) n 0 ≡ 0 = ap (λ b. cond b n 0) (test_other l k other) in
          let g : f (get_or (set lanes l v) k no_lane) ≡ f (get_or lanes k no_lane) = ap f (get_or-set_other lanes l k v no_lane other) in
          omega (arith, e, g))
    ]

-- a host that joins one stands there once more
join_if_places : (b : Bool) (lanes : List Queue) (l owner host now k h : ℕ) → l < length lanes
    → places h (get_or (join_if b lanes l owner host now) k no_lane) ≡ places h (get_or lanes k no_lane) + cond (b && (l == k)) (cond (host == h) 1 0) 0
join_if_places false lanes l owner host now k h i = omega arith
join_if_places true lanes l owner host now k h i =
    grown (places h) lanes l k (cond (host == h) 1 0) (joined (get_or lanes l no_lane) owner host now) i (joined_places (get_or lanes l no_lane) owner host now h)

pub none_or_none : (b : Bool) → some_if b 0 ≡ 0
none_or_none true = refl
none_or_none false = refl

pub join_if_busy : (b : Bool) (lanes : List Queue) (l owner host now k : ℕ) → l < length lanes → (get_or (join_if b lanes l owner host now) k no_lane).busy ≡ (get_or lanes k no_lane).busy
join_if_busy false lanes l owner host now k i = refl
join_if_busy true lanes l owner host now k i =
    let e = grown (λ q. q.busy) lanes l k 0 (joined (get_or lanes l no_lane) owner host now) i (omega arith) in
    omega (arith, e, none_or_none (l == k))

pub join_if_length : (b : Bool) (lanes : List Queue) (l owner host now : ℕ) → length (join_if b lanes l owner host now) ≡ length lanes
join_if_length false lanes l owner host now = refl
join_if_length true lanes l owner host now = length-set lanes l (joined (get_or lanes l no_lane) owner host now)

join_if_lane : (b : Bool) (lanes : List Queue) (l owner host now k : ℕ) → l < length lanes → ((k : ℕ) → IsLane (get_or lanes k no_lane)) → IsLane (get_or (join_if b lanes l owner host now) k no_lane)
join_if_lane false lanes l owner host now k i h = h k
join_if_lane true lanes l owner host now k i h =
    hold_set IsLane lanes l k (joined (get_or lanes l no_lane) owner host now) no_lane i (joined_is (get_or lanes l no_lane) owner host now (h l)) (h k)

-- ---- what is kept

-- that each host that waits stands in its lane once, where one host and some lanes changed alike
waits_kept : (s : State) (lanes : List Queue) (h : ℕ) (p : Peer) (u v : ℕ → Bool) → IsSchedule s → h < length s.hosts
    → ((k g : ℕ) → places g (get_or lanes k no_lane) + some_if (u k) (one_if (h == g)) ≡ places g (lane_at s k) + some_if (v k) (one_if (h == g)))
    → ((k : ℕ) → one_if (waits_in k p) + some_if (u k) 1 ≡ one_if (waits_in k (host_at s h)) + some_if (v k) 1)
    → (k g : ℕ) → places g (get_or lanes k no_lane) ≡ one_if (waits_in k (get_or (set s.hosts h p) g nobody))
waits_kept s lanes h p u v i inside a b k g =
    elim (cases_eq g h) [
      | inl same ↦
          (let t : (h == g) ≡ true = test_same h g same in
          let e : get_or (set s.hosts h p) g nobody ≡ p = ap (λ n. get_or (set s.hosts h p) n nobody) same ∙ get_or-set_same s.hosts h p nobody inside in
          let f : one_if (waits_in k (get_or (set s.hosts h p) g nobody)) ≡ one_if (waits_in k p) = ap (λ q. one_if (waits_in k q)) e in
          let old : places g (lane_at s k) ≡ one_if (waits_in k (host_at s h)) = i.waits k g ∙ ap (λ n. one_if (waits_in k (host_at s n))) same in
          let u1 : some_if (u k) (one_if (h == g)) ≡ some_if (u k) 1 = ap (λ x. some_if (u k) (one_if x)) t in
          let v1 : some_if (v k) (one_if (h == g)) ≡ some_if (v k) 1 = ap (λ x. some_if (v k) (one_if x)) t in
          omega (arith, a k g, b k, f, old, u1, v1))
      | inr other ↦
          (let t : (h == g) ≡ false = test_other h g other in
          let f : one_if (waits_in k (get_or (set s.hosts h p) g nobody)) ≡ one_if (waits_in k (host_at s g)) = ap (λ q. one_if (waits_in k q)) (get_or-set_other s.hosts h g p nobody other) in
          let u1 : some_if (u k) (one_if (h == g)) ≡ 0 = ap (λ x. some_if (u k) (one_if x)) t ∙ none_or_none (u k) in
          let v1 : some_if (v k) (one_if (h == g)) ≡ 0 = ap (λ x. some_if (v k) (one_if x)) t ∙ none_or_none (v k) in
          omega (arith, a k g, f, i.waits k g, u1, v1))
    ]

-- that each seat that is taken is that of a host
busy_kept : (s : State) (lanes : List Queue) (h k : ℕ) (p : Peer) → IsSchedule s → h < length s.hosts
    → (get_or lanes k no_lane).busy + one_if (is_busy_in k (host_at s h)) ≡ (lane_at s k).busy + one_if (is_busy_in k p)
    → (get_or lanes k no_lane).busy ≡ count_by (is_busy_in k) (set s.hosts h p)
busy_kept s lanes h k p i inside a =
    omega (arith, a, i.busy k, sum_by-set (λ (q : Peer). cond (is_busy_in k q) 1 0) s.hosts h p nobody inside)

-- a host with a seat counts among those of its lane
pub counts : (s : State) (h k : ℕ) → IsSchedule s → h < length s.hosts → one_if (is_busy_in k (host_at s h)) ≤ (lane_at s k).busy
counts s h k i inside =
    let none : one_if (is_busy_in k nobody) ≡ 0 = ap one_if (and_right (0 == k) false refl) in
    omega (arith, i.busy k, none, sum_by-set (λ (q : Peer). cond (is_busy_in k q) 1 0) s.hosts h nobody nobody inside)

pub free_seat : (q : Queue) (now : ℕ) → may_begin now q ≡ true → q.busy < q.seats
free_seat q now h = ltb-true q.busy q.seats (and_parts (nat_lt q.busy q.seats) (is_awaited now q) h).0

pub and_true : (b : Bool) → (b && true) ≡ b
and_true true = refl
and_true false = refl

-- ---- a job is handed to a host

has_some : (js : List ℕ) (j : ℕ) → is_none (js ++ j ∷ []) ≡ false
has_some [] j = refl
has_some (i ∷ js) j = refl

hand_tests : (a b n : Bool) → one_if (a && (not b && true)) + 0 ≡ one_if (a && (not b && not n)) + some_if ((not b && n) && a) 1
hand_tests true true true = refl
hand_tests true true false = refl
hand_tests true false true = refl
hand_tests true false false = refl
hand_tests false true true = refl
hand_tests false true false = refl
hand_tests false false true = refl
hand_tests false false false = refl

handed_waits : (k : ℕ) (p : Peer) (job : ℕ) → one_if (waits_in k (with_job p job)) + some_if false 1 ≡ one_if (waits_in k p) + some_if (is_idle p && (p.lane == k)) 1
handed_waits k p job =
    ap (λ n. one_if ((p.lane == k) && (not p.busy && not n)) + 0) (has_some p.jobs job) ∙ hand_tests (p.lane == k) p.busy (is_none p.jobs)

pub handed_is : (s : State) (h job now : ℕ) → h < length s.hosts → IsSchedule s → IsSchedule (handed s h job now)
handed_is s h job now inside i =
    let p : Peer = host_at s h in
    let c : Bool = is_idle p in
    let lanes : List Queue = join_if c s.lanes p.lane p.owner h now in
    record {
      some = omega (arith, i.some, join_if_length c s.lanes p.lane p.owner h now);
      lane = λ k. join_if_lane c s.lanes p.lane p.owner h now k (i.inside h) i.lane;
      inside = λ g. hold_set (λ (q : Peer). q.lane < length lanes) s.hosts h g (with_job p job) nobody inside
          (omega (arith, i.inside h, join_if_length c s.lanes p.lane p.owner h now)) (omega (arith, i.inside g, join_if_length c s.lanes p.lane p.owner h now));
      held = λ g. hold_set Holds s.hosts h g (with_job p job) nobody inside (λ b. has_some p.jobs job) (i.held g);
      waits = waits_kept s lanes h (with_job p job) (λ k. false) (λ k. c && (p.lane == k)) i inside
          (λ k g. omega (arith, join_if_places c s.lanes p.lane p.owner h now k g (i.inside h)))
          (λ k. handed_waits k p job);
      busy = λ k. busy_kept s lanes h k (with_job p job) i inside
          (ap (λ n. n + one_if (is_busy_in k p)) (join_if_busy c s.lanes p.lane p.owner h now k (i.inside h)));
    }

-- ---- the first host of a lane takes a seat

pub known_if : (s : State) (h : ℕ) → is_none (host_at s h).jobs ≡ false → h < length s.hosts
known_if s h e =
    elim (cases_lt h (length s.hosts)) [
      | inl inside ↦ inside
      | inr past ↦ absurd (false≢true (sym e ∙ ap (λ (p : Peer). is_none p.jobs) (get_or_past s.hosts h nobody past)))
    ]

-- who stands first in a lane waits in it
pub first_waits : (s : State) (l now h : ℕ) → IsSchedule s → first_host now (lane_at s l) ≡ Some h → waits_in l (host_at s h) ≡ true
first_waits s l now h i e =
    elim (cases_Bool (waits_in l (host_at s h))) [
      | inl does ↦ does
      | inr not_so ↦
          (let t : one_if (h == h) ≡ 1 = ap one_if (eq-eqb h h refl) in
          let n : one_if (waits_in l (host_at s h)) ≡ 0 = ap one_if not_so in
          absurd (omega (arith, begun_places now (lane_at s l) h h e, i.waits l h, t, n)))
    ]

seat_tests : (a b n : Bool) → b ≡ false → n ≡ false → one_if (a && false) + some_if a 1 ≡ one_if (a && (not b && not n)) + 0
seat_tests true true n e f = cc
seat_tests true false true e f = cc
seat_tests true false false e f = refl
seat_tests false b n e f = refl

pub seated_is : (s : State) (l h now : ℕ) → may_begin now (lane_at s l) ≡ true → l < length s.lanes → first_host now (lane_at s l) ≡ Some h → IsSchedule s → IsSchedule (seated s l now h)
seated_is s l h now m il e i =
    let p : Peer = host_at s h in
    let w = waits_parts l p (first_waits s l now h i e) in
    let inside : h < length s.hosts = known_if s h w.2 in
    let lanes : List Queue = set s.lanes l (begun now (lane_at s l)) in
    let n : length lanes ≡ length s.lanes = length-set s.lanes l (begun now (lane_at s l)) in
    let free : (lane_at s l).busy < (lane_at s l).seats = free_seat (lane_at s l) now m in
    record {
      some = omega (arith, i.some, n);
      lane = λ k. hold_set IsLane s.lanes l k (begun now (lane_at s l)) no_lane il (begun_is now (lane_at s l) free (i.lane l)) (i.lane k);
      inside = λ g. hold_set (λ (q : Peer). q.lane < length lanes) s.hosts h g (with_seat p) nobody inside (omega (arith, i.inside h, n)) (omega (arith, i.inside g, n));
      held = λ g. hold_set Holds s.hosts h g (with_seat p) nobody inside (λ b. w.2) (i.held g);
      waits = waits_kept s lanes h (with_seat p) (λ k. l == k) (λ k. false) i inside
          (λ k g. omega (arith, shrunk (places g) s.lanes l k (cond (h == g) 1 0) (begun now (lane_at s l)) il (begun_places now (lane_at s l) h g e)))
          (λ k. subst (λ j. one_if ((p.lane == k) && false) + some_if (j == k) 1 ≡ one_if (waits_in k p) + 0) w.0 (seat_tests (p.lane == k) p.busy (is_none p.jobs) w.1 w.2));
      busy = λ k. busy_kept s lanes h k (with_seat p) i inside
          (let a = grown (λ q. q.busy) s.lanes l k 1 (begun now (lane_at s l)) il refl in
          let b : one_if (is_busy_in k p) ≡ 0 = ap one_if (and_right (p.lane == k) p.busy w.1) in
          let d : one_if (is_busy_in k (with_seat p)) ≡ some_if (l == k) 1 = ap (λ j. one_if ((j == k) && true)) w.0 ∙ ap one_if (and_true (l == k)) in
          omega (arith, a, b, d));
    }

-- ---- an exchange with a host ended

pub end_at_length : (lanes : List Queue) (l : ℕ) → length (end_at lanes l) ≡ length lanes
end_at_length lanes l = length-set lanes l (ended (get_or lanes l no_lane))

end_at_places : (lanes : List Queue) (l k h : ℕ) → l < length lanes → places h (get_or (end_at lanes l) k no_lane) ≡ places h (get_or lanes k no_lane)
end_at_places lanes l k h i = omega (arith, grown (places h) lanes l k 0 (ended (get_or lanes l no_lane)) i (omega arith), none_or_none (l == k))

pub end_at_busy : (lanes : List Queue) (l k : ℕ) → l < length lanes → 0 < (get_or lanes l no_lane).busy
    → (get_or lanes k no_lane).busy ≡ (get_or (end_at lanes l) k no_lane).busy + some_if (l == k) 1
end_at_busy lanes l k i h = shrunk (λ q. q.busy) lanes l k 1 (ended (get_or lanes l no_lane)) i (omega arith)

pub next_lane_inside : (how : Ending) (lane n : ℕ) → 0 < n → next_lane how lane n < n
next_lane_inside Soon lane n h = h
next_lane_inside Late lane n h = omega arith
next_lane_inside Failed lane n h = omega arith

settle_tests : (a c w : Bool) → w ≡ false → one_if (a && c) + 0 ≡ one_if w + some_if (c && a) 1
settle_tests true true w e = ap (λ b. one_if b + 1) (sym e)
settle_tests true false w e = ap (λ b. one_if b + 0) (sym e)
settle_tests false true w e = ap (λ b. one_if b + 0) (sym e)
settle_tests false false w e = ap (λ b. one_if b + 0) (sym e)

pub known_busy : (s : State) (h : ℕ) → (host_at s h).busy ≡ true → h < length s.hosts
known_busy s h e =
    elim (cases_lt h (length s.hosts)) [
      | inl inside ↦ inside
      | inr past ↦ absurd (false≢true (sym (ap (λ (p : Peer). p.busy) (get_or_past s.hosts h nobody past)) ∙ e))
    ]

-- the lane of a host with a seat has one that is taken
pub busy_lane : (s : State) (h : ℕ) → IsSchedule s → (host_at s h).busy ≡ true → 0 < (lane_at s (host_at s h).lane).busy
busy_lane s h i e =
    let t : one_if (is_busy_in (host_at s h).lane (host_at s h)) ≡ 1 = ap one_if (and_from ((host_at s h).lane == (host_at s h).lane) (host_at s h).busy (eq-eqb (host_at s h).lane (host_at s h).lane refl) e) in
    omega (arith, t, counts s h (host_at s h).lane i (known_busy s h e))

pub settled_is : (s : State) (h : ℕ) (how : Ending) (stays : Bool) (now : ℕ) → (host_at s h).busy ≡ true → IsSchedule s → IsSchedule (settled s h how stays now)
settled_is s h how stays now e i =
    let p : Peer = host_at s h in
    let inside : h < length s.hosts = known_busy s h e in
    let l : ℕ = next_lane how p.lane (length s.lanes) in
    let il : l < length s.lanes = next_lane_inside how p.lane (length s.lanes) i.some in
    let q : Peer = without_seat p l stays in
    let c : Bool = not (is_none q.jobs) in
    let mid : List Queue = join_if c s.lanes l p.owner h now in
    let n : length mid ≡ length s.lanes = join_if_length c s.lanes l p.owner h now in
    let lanes : List Queue = end_at mid p.lane in
    let m : length lanes ≡ length mid = end_at_length mid p.lane in
    let ip : p.lane < length mid = omega (arith, i.inside h, n) in
    let taken : 0 < (get_or mid p.lane no_lane).busy = omega (arith, busy_lane s h i e, join_if_busy c s.lanes l p.owner h now p.lane il) in
    record {
      some = omega (arith, i.some, n, m);
      lane = λ k. hold_set IsLane mid p.lane k (ended (get_or mid p.lane no_lane)) no_lane ip
          (ended_is (get_or mid p.lane no_lane) (join_if_lane c s.lanes l p.owner h now p.lane il i.lane)) (join_if_lane c s.lanes l p.owner h now k il i.lane);
      inside = λ g. hold_set (λ (q : Peer). q.lane < length lanes) s.hosts h g q nobody inside (omega (arith, il, n, m)) (omega (arith, i.inside g, n, m));
      held = λ g. hold_set Holds s.hosts h g q nobody inside (λ b. absurd (false≢true b)) (i.held g);
      waits = waits_kept s lanes h q (λ k. false) (λ k. c && (l == k)) i inside
          (λ k g. omega (arith, end_at_places mid p.lane k g ip, join_if_places c s.lanes l p.owner h now k g il))
          (λ k. settle_tests (l == k) c (waits_in k p) (seated_waits k p e));
      busy = λ k. busy_kept s lanes h k q i inside
          (let a = end_at_busy mid p.lane k ip taken in
          let b = join_if_busy c s.lanes l p.owner h now k il in
          let d : one_if (is_busy_in k p) ≡ some_if (p.lane == k) 1 = ap (λ b. one_if ((p.lane == k) && b)) e ∙ ap one_if (and_true (p.lane == k)) in
          let f : one_if (is_busy_in k q) ≡ 0 = ap one_if (and_right (l == k) false refl) in
          omega (arith, a, b, d, f));
    }

-- ---- a host is blamed

pub idle_parts : (p : Peer) → is_idle p ≡ true → (p.busy ≡ false) × (is_none p.jobs ≡ true)
idle_parts p h = let a = and_parts (not p.busy) (is_none p.jobs) h in (not_true p.busy a.0, a.1)

-- an idle host has a seat nowhere, wherever it is moved
pub idle_busy : (k owner lane : ℕ) (p : Peer) → p.busy ≡ false → is_busy_in k (given p owner lane) ≡ is_busy_in k p
idle_busy k owner lane p h = and_right (lane == k) p.busy h ∙ sym (and_right (p.lane == k) p.busy h)

given_is : (b : Bool) (s : State) (h owner l : ℕ) → is_idle (host_at s h) ≡ b → h < length s.hosts → l < length s.lanes → IsSchedule s
    → IsSchedule (record { lanes = s.lanes; hosts = given_if b s.hosts h owner l })
given_is false s h owner l e inside il i = i
given_is true s h owner l e inside il i =
    let p : Peer = host_at s h in
    let idle = idle_parts p e in
    let q : Peer = given p owner l in
    record {
      some = i.some;
      lane = i.lane;
      inside = λ g. hold_set (λ (q : Peer). q.lane < length s.lanes) s.hosts h g q nobody inside il (i.inside g);
      held = λ g. hold_set Holds s.hosts h g q nobody inside (λ b. absurd (false≢true (sym idle.0 ∙ b))) (i.held g);
      waits = waits_kept s s.lanes h q (λ k. false) (λ k. false) i inside (λ k g. refl)
          (λ k. ap (λ b. one_if b + 0) (idle_waits k q idle.1 ∙ sym (idle_waits k p idle.1)));
      busy = λ k. busy_kept s s.lanes h k q i inside (ap (λ b. (lane_at s k).busy + one_if b) (sym (idle_busy k owner l p idle.0)));
    }

pub assigned_is : (s : State) (h owner l : ℕ) → h < length s.hosts → l < length s.lanes → IsSchedule s → IsSchedule (assigned s h owner l)
assigned_is s h owner l inside il i = given_is (is_idle (host_at s h)) s h owner l refl inside il i

pub first_lane_inside : (n : ℕ) → 0 < n → first_lane n < n
first_lane_inside n h = omega arith

pub blamed_is : (s : State) (h : ℕ) → h < length s.hosts → IsSchedule s → IsSchedule (blamed s h)
blamed_is s h inside i =
    assigned_is s h (host_at s h).owner (next_lane Failed (host_at s h).lane (length s.lanes)) inside (next_lane_inside Failed (host_at s h).lane (length s.lanes) i.some) i

pub renewed_is : (s : State) (h owner : ℕ) → h < length s.hosts → IsSchedule s → IsSchedule (renewed s h owner)
renewed_is s h owner inside i = assigned_is s h owner (first_lane (length s.lanes)) inside (first_lane_inside (length s.lanes) i.some) i

-- ---- for the functions

same_is : (u t : State) → u.lanes ≡ t.lanes → u.hosts ≡ t.hosts → IsSchedule t → IsSchedule u
same_is u t a b i =
    let one : IsSchedule (record { lanes = u.lanes; hosts = t.hosts }) = subst (λ (ls : List Queue). IsSchedule (record { lanes = ls; hosts = t.hosts })) (sym a) i in
    subst (λ (hs : List Peer). IsSchedule (record { lanes = u.lanes; hosts = hs })) (sym b) one

-- a call that did what it says, or nothing
pub either_is : {E : Type 0} (r : Result (Unit {0}) E) (s t u : State) → OnOk r (u.lanes ≡ t.lanes) → OnOk r (u.hosts ≡ t.hosts)
    → OnErr r ((u.lanes ≡ s.lanes) × (u.hosts ≡ s.hosts)) → IsSchedule s → IsSchedule t → IsSchedule u
either_is (Ok x) s t u a b e i j = same_is u t a b j
either_is (Err x) s t u a b e i j = same_is u s e.0 e.1 i

-- who stands first in a lane is known, and has a job
pub first_known : (s : State) (l now h : ℕ) → IsSchedule s → first_host now (lane_at s l) ≡ Some h → (h < length s.hosts) × (is_none (host_at s h).jobs ≡ false)
first_known s l now h i e =
    let w = waits_parts l (host_at s h) (first_waits s l now h i e) in
    (known_if s h w.2, w.2)

pub begun_state_is : (s u : State) (l h now : ℕ) → l < length s.lanes → may_begin now (lane_at s l) ≡ true → first_host now (lane_at s l) ≡ Some h
    → u.lanes ≡ (seated s l now h).lanes → u.hosts ≡ (seated s l now h).hosts → IsSchedule s → IsSchedule u
begun_state_is s u l h now il m e a b i = same_is u (seated s l now h) a b (seated_is s l h now m il e i)

-- who begins had no exchange under way, and has one then
pub alone_is : (s u : State) (l now h : ℕ) → IsSchedule s → first_host now (lane_at s l) ≡ Some h → u.hosts ≡ set s.hosts h (with_seat (host_at s h))
    → ((host_at s h).busy ≡ false) × ((host_at u h).busy ≡ true)
alone_is s u l now h i e n =
    let w = waits_parts l (host_at s h) (first_waits s l now h i e) in (
      w.1,
      ap (λ (hs : List Peer). (get_or hs h nobody).busy) n ∙ ap (λ (p : Peer). p.busy) (get_or-set_same s.hosts h (with_seat (host_at s h)) nobody (known_if s h w.2)),
    )
