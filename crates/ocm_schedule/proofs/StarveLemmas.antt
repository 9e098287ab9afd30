-- Nobody starves in a schedule.
use Rattle.std.proofs.Common.{◌≡◌, ℕ, zero, suc, ◌+◌, ◌-◌, ◌*◌, ◌/◌, ◌<◌, ◌≤◌, Bool, true, false, List, [], ◌∷◌, ◌++◌, length, refl, sym, ap, ◌∙◌, arith, subst, inl, inr, ◌⊎◌, get_or, Some, None, Option}
use Rattle.std.specs.Prelude.{◌&&◌, ◌||◌, ◌==◌, nat_lt, nat_le, not, if◌then◌else◌, option_to_list, count_by}
use Rattle.std.proofs.Math.ListN.{set}
use Rattle.std.proofs.Math.Nat.{lt-div-mul-add, suc-mul, mul-zero}
use Rattle.std.proofs.lemmas.Bool.{and_from, and_right, cases_eq, cases_lt, cases_Bool, eq-eqb, false≢true, ltb-true, lt-ltb, le-leb, leb-true}
use Rattle.std.proofs.lemmas.List.{get_or-set_same, get_or-set_other}
use Rattle.ocm_schedule.specs.declared.schedules.Ending.{Ending}
use Rattle.ocm_schedule.specs.declared.schedules.Ending.TheVariants.{Failed}
use Rattle.ocm_schedule.specs.declared.places.Place.{Place}
use Rattle.ocm_schedule.specs.Circles as circle
use Rattle.ocm_schedule.specs.Circles.{Line, some, first_of, behind, stands, first_in, turned}
use Rattle.ocm_schedule.specs.Lanes.{Queue, may_begin, is_awaited, has_rested, rest_at, with_rested, circle_at, host_of, begun, joined, ended, moment}
use Rattle.ocm_schedule.specs.Schedules.{given, given_if, assigned, first_lane, Peer, State, no_lane, lane_at, host_at, is_none, is_idle, is_busy_in, IsSchedule, with_job, with_seat, without_seat, unasked, handed, seated, settled, next_lane, join_if, end_at}
use Rattle.ocm_schedule.specs.Runs.{World, Event, Adds, Due, Asks, Ended, Blames, Renews, Passes, who, begins, hands, settles, blames, renews, happens, run, begin_in, IsPunctual, IsNext, StandsAt, circle_in, AtMost, IsIn, started, NoHostStarves}
use Rattle.ocm_schedule.proofs.TurnLemmas.{turns, turns_none, turns_one, turns_earlier, turns_enough, one_more, none_of, shares}
use Rattle.ocm_schedule.proofs.LaneLemmas.{if_both}
use Rattle.ocm_schedule.proofs.ScheduleLemmas.{idle_parts, idle_busy, some_if, grown, none_or_none, and_true, join_if_busy, join_if_length, end_at_busy, first_waits, waits_parts, known_if, known_busy, free_seat, test_same, test_other, busy_lane, next_lane_inside}
use Rattle.ocm_schedule.proofs.SumLemmas.{total, total_change, total_push, total_none, total_enough}
use Rattle.ocm_schedule.proofs.RunLemmas.{sound_blames, sound_renews, IsSound, sound_happens, sound_run, sound_started, who_parts, lane_known, sound_hands, sound_begins, sound_settles}

-- ---- who stands where

next_snoc : (ps : List Place) (n h : ℕ) (p : Place) → IsNext ps n h → IsNext (ps ++ p ∷ []) n h
next_snoc [] n h p x = absurd x
next_snoc (q ∷ qs) zero h p x = x
next_snoc (q ∷ qs) (suc n) h p x = next_snoc qs n h p x

stands_snoc : (ls : List Line) (k n h : ℕ) (l : Line) → StandsAt ls k n h → StandsAt (ls ++ l ∷ []) k n h
stands_snoc [] k n h l x = absurd x
stands_snoc (m ∷ ms) zero n h l x = x
stands_snoc (m ∷ ms) (suc k) n h l x = stands_snoc ms k n h l x

stands_if : (t : Bool) (l : Line) (ls : List Line) (p : Place) (k n h : ℕ) → StandsAt (l ∷ ls) k n h → ((j : ℕ) → StandsAt ls j n h → StandsAt (circle.joined ls p) j n h)
    → StandsAt (if t then record { owner = l.owner; places = l.places ++ p ∷ [] } ∷ ls else l ∷ circle.joined ls p) k n h
stands_if true l ls p zero n h x f = next_snoc l.places n h p x
stands_if true l ls p (suc k) n h x f = x
stands_if false l ls p zero n h x f = x
stands_if false l ls p (suc k) n h x f = f k x

-- who stands in a circle still does as others join
stands_joined : (ls : List Line) (p : Place) (k n h : ℕ) → StandsAt ls k n h → StandsAt (circle.joined ls p) k n h
stands_joined [] p k n h x = absurd x
stands_joined (l ∷ ls) p k n h x = stands_if (l.owner == p.owner) l ls p k n h x (λ j y. stands_joined ls p j n h y)

stands_rested : (now : ℕ) (ps : List Place) (ls : List Line) (k n h : ℕ) → StandsAt ls k n h → StandsAt (with_rested now ps ls) k n h
stands_rested now [] ls k n h x = x
stands_rested now (p ∷ ps) ls k n h x =
    if_both (λ ms. StandsAt ms k n h) (nat_le p.from now) (with_rested now ps (circle.joined ls p)) ls
    (stands_rested now ps (circle.joined ls p) k n h (stands_joined ls p k n h x)) x

-- later no fewer have rested
later_if : (a b : Bool) (xs ys ls : List Line) (k n h : ℕ) → (a ≡ true → b ≡ true) → (StandsAt xs k n h → StandsAt ys k n h) → (StandsAt ls k n h → StandsAt ys k n h)
    → StandsAt (if a then xs else ls) k n h → StandsAt (if b then ys else ls) k n h
later_if true true xs ys ls k n h m f g x = f x
later_if true false xs ys ls k n h m f g x = absurd (false≢true (m refl))
later_if false true xs ys ls k n h m f g x = g x
later_if false false xs ys ls k n h m f g x = x

stands_later : (now time : ℕ) (ps : List Place) (ls : List Line) (k n h : ℕ) → StandsAt (with_rested now ps ls) k n h → StandsAt (with_rested (now + time) ps ls) k n h
stands_later now time [] ls k n h x = x
stands_later now time (p ∷ ps) ls k n h x =
    later_if (nat_le p.from now) (nat_le p.from (now + time)) (with_rested now ps (circle.joined ls p)) (with_rested (now + time) ps (circle.joined ls p)) ls k n h
    (λ e. le-leb p.from (now + time) (omega (arith, leb-true p.from now e)))
    (stands_later now time ps (circle.joined ls p) k n h)
    (λ y. stands_rested (now + time) ps (circle.joined ls p) k n h (stands_joined ls p k n h y))
    x

-- and as another begins to rest
stands_resting : (now : ℕ) (ps : List Place) (q : Place) (ls : List Line) (k n h : ℕ) → StandsAt (with_rested now ps ls) k n h → StandsAt (with_rested now (ps ++ q ∷ []) ls) k n h
stands_resting now [] q ls k n h x = stands_rested now (q ∷ []) ls k n h x
stands_resting now (p ∷ ps) q ls k n h x =
    later_if (nat_le p.from now) (nat_le p.from now) (with_rested now ps (circle.joined ls p)) (with_rested now (ps ++ q ∷ []) (circle.joined ls p)) ls k n h
    (λ e. e) (stands_resting now ps q (circle.joined ls p) k n h)
    (λ y. stands_rested now (ps ++ q ∷ []) (circle.joined ls p) k n h (stands_joined ls p k n h y))
    x

-- somebody waits where one stands
awaited_if : (t : Bool) (ls : List Line) (k n h : ℕ) → StandsAt (if t then ls else []) k n h → t ≡ true
awaited_if true ls k n h x = refl
awaited_if false ls k n h x = absurd x

awaited : (now : ℕ) (ps : List Place) (ls : List Line) (k n h : ℕ) → StandsAt (with_rested now ps ls) k n h → (stands ls || has_rested now ps) ≡ true
awaited now ps (l ∷ ls) k n h x = refl
awaited now [] [] k n h x = absurd x
awaited now (p ∷ ps) [] k n h x = awaited_if (nat_le p.from now) (with_rested now ps (circle.joined [] p)) k n h x

stands_less : (ls : List Line) (k n h : ℕ) → StandsAt ls k n h → k < length ls
stands_less [] k n h x = absurd x
stands_less (l ∷ ls) zero n h x = omega arith
stands_less (l ∷ ls) (suc k) n h x = omega (arith, stands_less ls k n h x)

-- ---- a turn

-- a host begins after no more than so many turns
abbrev Before : ℕ → List Line → ℕ → ℕ → Type 0
Before cap ls h rank = (k : ℕ) × (n : ℕ) × StandsAt ls k n h × (k + n * cap ≤ rank)

some_next : (ps : List Place) (n h : ℕ) → IsNext ps n h → some ps ≡ true
some_next [] n h x = absurd x
some_next (p ∷ ps) n h x = refl

next_behind : (ps : List Place) (n h : ℕ) → IsNext ps (suc n) h → IsNext (behind ps) n h
next_behind [] n h x = absurd x
next_behind (p ∷ ps) n h x = x

last_stands : (ls : List Line) (l : Line) (n h : ℕ) → IsNext l.places n h → StandsAt (ls ++ l ∷ []) (length ls) n h
last_stands [] l n h x = x
last_stands (m ∷ ms) l n h x = last_stands ms l n h x

first_next : (ps : List Place) (g h : ℕ) → IsNext ps 0 h → host_of (first_of ps) ≡ Some g → g ≡ h
first_next [] g h x e = absurd x
first_next (p ∷ ps) g h x e = let f : p.host ≡ g = cc in sym f ∙ x

-- the host whose turn it is begins, or there is one turn less before it
turn_at : (cap h g : ℕ) (ls : List Line) (k n rank : ℕ) → length ls ≤ cap → host_of (first_in ls) ≡ Some g → StandsAt ls k n h → k + n * cap ≤ rank
    → (g ≡ h) ⊎ ((0 < rank) × Before cap (turned ls) h (rank - 1))
turn_at cap h g [] k n rank c e x b = absurd x
turn_at cap h g (l ∷ ls) zero zero rank c e x b = inl (first_next l.places g h x e)
turn_at cap h g (l ∷ ls) zero (suc n) rank c e x b =
    let y : IsNext (behind l.places) n h = next_behind l.places n h x in
    let last : Line = record { owner = l.owner; places = behind l.places } in
    let t : turned (l ∷ ls) ≡ ls ++ last ∷ [] = ap (λ u. if u then ls ++ last ∷ [] else ls) (some_next (behind l.places) n h y) in
    inr (
      omega (arith, b, c),
      (length ls, n, subst (λ (ms : List Line). StandsAt ms (length ls) n h) (sym t) (last_stands ls last n h y), omega (arith, b, c)),
    )
turn_at cap h g (l ∷ ls) (suc k) n rank c e x b =
    let last : Line = record { owner = l.owner; places = behind l.places } in
    inr (
      omega (arith, b),
      (
        k,
        n,
        if_both (λ (ms : List Line). StandsAt ms k n h) (some (behind l.places)) (ls ++ last ∷ []) ls (stands_snoc ls k n h last x) x,
        omega (arith, b),
      ),
    )

turn : (cap h g : ℕ) (ls : List Line) (rank : ℕ) → length ls ≤ cap → host_of (first_in ls) ≡ Some g → Before cap ls h rank
    → (g ≡ h) ⊎ ((0 < rank) × Before cap (turned ls) h (rank - 1))
turn cap h g ls rank c e b = turn_at cap h g ls b.0 b.1 rank c e b.2 b.3

-- ---- the lanes

abbrev circle_of : ℕ → List Queue → ℕ → List Line
circle_of now lanes l = circle_at now (get_or lanes l no_lane)

-- who stands in the circle of a lane still does as another joins one
circle_joined : (b : Bool) (lanes : List Queue) (l to owner host at k n h : ℕ) → to < length lanes → StandsAt (circle_of at lanes l) k n h
    → StandsAt (circle_of at (join_if b lanes to owner host at) l) k n h
circle_joined false lanes l to owner host at k n h i x = x
circle_joined true lanes l to owner host at k n h i x =
    let q : Queue = get_or lanes to no_lane in
    let v : Queue = joined q owner host at in
    elim (cases_eq l to) [
      | inl same ↦
          subst (λ j. StandsAt (circle_of at (set lanes to v) j) k n h) (sym same)
          (subst (λ (r : Queue). StandsAt (circle_at at r) k n h) (sym (get_or-set_same lanes to v no_lane i))
          (stands_resting at q.resting (record { from = moment q at; owner = owner; host = host }) q.circle k n h
          (subst (λ j. StandsAt (circle_of at lanes j) k n h) same x)))
      | inr other ↦ subst (λ (r : Queue). StandsAt (circle_at at r) k n h) (sym (get_or-set_other lanes to l v no_lane other)) x
    ]

-- and as a seat is given back
circle_ended : (lanes : List Queue) (l from at : ℕ) → from < length lanes → circle_of at (end_at lanes from) l ≡ circle_of at lanes l
circle_ended lanes l from at i =
    let v : Queue = ended (get_or lanes from no_lane) in
    elim (cases_eq l from) [
      | inl same ↦
          (ap (λ j. circle_of at (set lanes from v) j) same ∙ ap (circle_at at) (get_or-set_same lanes from v no_lane i) ∙ ap (λ j. circle_of at lanes j) (sym same))
      | inr other ↦ ap (circle_at at) (get_or-set_other lanes from l v no_lane other)
    ]

seats_joined : (b : Bool) (lanes : List Queue) (l to owner host at : ℕ) → to < length lanes → (get_or (join_if b lanes to owner host at) l no_lane).seats ≡ (get_or lanes l no_lane).seats
seats_joined false lanes l to owner host at i = refl
seats_joined true lanes l to owner host at i =
    let e = grown (λ q. q.seats) lanes to l 0 (joined (get_or lanes to no_lane) owner host at) i (omega arith) in
    omega (arith, e, none_or_none (to == l))

seats_ended : (lanes : List Queue) (l k : ℕ) → k < length lanes → (get_or (end_at lanes k) l no_lane).seats ≡ (get_or lanes l no_lane).seats
seats_ended lanes l k i =
    let e = grown (λ q. q.seats) lanes k l 0 (ended (get_or lanes k no_lane)) i (omega arith) in
    omega (arith, e, none_or_none (k == l))

-- ---- the turns that are left

-- what the exchange with a host still gives to a lane
abbrev gives : ℕ → ℕ → ℕ → (ℕ → ℕ) → ℕ → Peer → ℕ
gives limit e l ends h p = some_if (is_busy_in l p) (turns limit e (ends h))

abbrev left : ℕ → ℕ → ℕ → World → ℕ
left limit e l w = total (gives limit e l w.ends) w.state.hosts + ((lane_at w.state l).seats - (lane_at w.state l).busy) * turns limit e w.now

record Waits (limit e l cap h : ℕ) (w : World) (rank : ℕ) : Type 0 where
  sound : IsSound l limit w
  stands : Before cap (circle_in l w) h rank
  enough : rank < left limit e l w

none_given : (limit e l h : ℕ) (w : World) → 0 < limit → e < w.now → IsSound l limit w → gives limit e l w.ends h (host_at w.state h) ≡ 0
none_given limit e l h w p late s =
    elim (cases_Bool (is_busy_in l (host_at w.state h))) [
      | inl taken ↦
          (let z : turns limit e (w.ends h) ≡ 0 = turns_none limit e (w.ends h) p (omega (arith, late, s.future h taken)) in
          ap (some_if (is_busy_in l (host_at w.state h))) z ∙ none_or_none (is_busy_in l (host_at w.state h)))
      | inr free ↦ ap (λ b. some_if b (turns limit e (w.ends h))) free
    ]

within : (limit e l cap h : ℕ) (w : World) (rank : ℕ) → 0 < limit → Waits limit e l cap h w rank → w.now ≤ e
within limit e l cap h w rank p x =
    elim (cases_lt e w.now) [
      | inl late ↦
          (let seats : ℕ = (lane_at w.state l).seats - (lane_at w.state l).busy in
          let none : seats * turns limit e w.now ≡ 0 = ap (λ n. seats * n) (turns_none limit e w.now p late) ∙ mul-zero seats in
          absurd (omega (arith, x.enough, none, total_none (gives limit e l w.ends) w.state.hosts (λ j. none_given limit e l j w p late x.sound))))
      | inr early ↦ early
    ]

-- a host is added
left_added : (limit e l owner : ℕ) (w : World) → left limit e l (happens limit w (Adds owner)) ≡ left limit e l w
left_added limit e l owner w =
    let lane : ℕ = first_lane (length w.state.lanes) in
    let z : gives limit e l w.ends (length w.state.hosts) (unasked owner lane) ≡ 0 = ap (λ b. some_if b (turns limit e (w.ends (length w.state.hosts)))) (and_right (lane == l) false refl) in
    omega (arith, total_push (gives limit e l w.ends) w.state.hosts (unasked owner lane), z)

same_product : (a b c d n : ℕ) → a ≡ c → b ≡ d → (a - b) * n ≡ (c - d) * n
same_product a b c d n e f = ap (λ m. (m - b) * n) e ∙ ap (λ m. (c - m) * n) f

-- a job is handed to a host
left_handed : (limit e l h job : ℕ) (w : World) → h < length w.state.hosts → IsSchedule w.state → left limit e l (hands true h job w) ≡ left limit e l w
left_handed limit e l h job w i s =
    let p : Peer = host_at w.state h in
    let b = join_if_busy (is_idle p) w.state.lanes p.lane p.owner h w.now l (s.inside h) in
    let c = seats_joined (is_idle p) w.state.lanes l p.lane p.owner h w.now (s.inside h) in
    let t = total_change (gives limit e l w.ends) (gives limit e l w.ends) w.state.hosts h (with_job p job) (λ j n q. refl) i in
    let m = same_product (lane_at (handed w.state h job w.now) l).seats (lane_at (handed w.state h job w.now) l).busy (lane_at w.state l).seats (lane_at w.state l).busy (turns limit e w.now) c b in
    omega (arith, t, m)

-- a host begins: what is given changes for it alone
other_same : (limit e l h now : ℕ) (ends : ℕ → ℕ) (j : ℕ) → (j ≡ h → ⊥) → (p : Peer) → gives limit e l ends j p ≡ gives limit e l (λ g. if h == g then now else ends g) j p
other_same limit e l h now ends j n p = ap (λ t. some_if (is_busy_in l p) (turns limit e (if t then now else ends j))) (sym (test_other h j n))

begun_total : (limit e l k h : ℕ) (w : World) → h < length w.state.hosts → (host_at w.state h).lane ≡ k → (host_at w.state h).busy ≡ false
    → total (gives limit e l (begins (Some h) limit k w).ends) (seated w.state k w.now h).hosts ≡ total (gives limit e l w.ends) w.state.hosts + some_if (k == l) (turns limit e (w.now + limit))
begun_total limit e l k h w i a b =
    let p : Peer = host_at w.state h in
    let new : ℕ → ℕ = λ g. if h == g then w.now + limit else w.ends g in
    let t = total_change (gives limit e l w.ends) (gives limit e l new) w.state.hosts h (with_seat p) (other_same limit e l h (w.now + limit) w.ends) i in
    let old : gives limit e l w.ends h p ≡ 0 = ap (λ x. some_if x (turns limit e (w.ends h))) (and_right (p.lane == l) p.busy b) in
    let now : gives limit e l new h (with_seat p) ≡ some_if (k == l) (turns limit e (w.now + limit))
    = ap (λ x. some_if x (turns limit e (new h))) (and_true (p.lane == l)) ∙ ap (λ n. some_if (n == l) (turns limit e (new h))) a
    ∙ ap (λ x. some_if (k == l) (turns limit e (if x then w.now + limit else w.ends h))) (eq-eqb h h refl) in
    omega (arith, t, old, now)

-- in the lane that was asked, one turn is used up
left_here : (limit e l h : ℕ) (w : World) → 0 < limit → w.now ≤ e → who w.now w.state l ≡ Some h → IsSound l limit w
    → left limit e l w ≡ left limit e l (begins (Some h) limit l w) + 1
left_here limit e l h w p early o s =
    let m = who_parts w.now w.state l h o in
    let x = waits_parts l (host_at w.state h) (first_waits w.state l w.now h s.schedule m.1) in
    let i : h < length w.state.hosts = known_if w.state h x.2 in
    let il : l < length w.state.lanes = lane_known w.state l w.now m.0 in
    let t = begun_total limit e l l h w i x.0 x.1 in
    let here : some_if (l == l) (turns limit e (w.now + limit)) ≡ turns limit e (w.now + limit) = ap (λ b. some_if b (turns limit e (w.now + limit))) (eq-eqb l l refl) in
    let q : Queue = lane_at w.state l in
    let at : lane_at (seated w.state l w.now h) l ≡ begun w.now q = get_or-set_same w.state.lanes l (begun w.now q) no_lane il in
    let after : ((lane_at (seated w.state l w.now h) l).seats - (lane_at (seated w.state l w.now h) l).busy) * turns limit e w.now ≡ (q.seats - (q.busy + 1)) * turns limit e w.now
    = ap (λ (r : Queue). (r.seats - r.busy) * turns limit e w.now) at in
    omega (arith, t, here, after, one_more q.seats q.busy (turns limit e w.now) (free_seat q w.now m.0), turns_one limit e w.now p early)

-- in the others nothing is
left_there : (limit e l k h : ℕ) (w : World) → (l ≡ k → ⊥) → who w.now w.state k ≡ Some h → IsSound l limit w → left limit e l (begins (Some h) limit k w) ≡ left limit e l w
left_there limit e l k h w n o s =
    let m = who_parts w.now w.state k h o in
    let x = waits_parts k (host_at w.state h) (first_waits w.state k w.now h s.schedule m.1) in
    let i : h < length w.state.hosts = known_if w.state h x.2 in
    let t = begun_total limit e l k h w i x.0 x.1 in
    let z : some_if (k == l) (turns limit e (w.now + limit)) ≡ 0 = ap (λ b. some_if b (turns limit e (w.now + limit))) (test_other k l n) in
    let at : lane_at (seated w.state k w.now h) l ≡ lane_at w.state l = get_or-set_other w.state.lanes k l (begun w.now (lane_at w.state k)) no_lane n in
    let after : ((lane_at (seated w.state k w.now h) l).seats - (lane_at (seated w.state k w.now h) l).busy) * turns limit e w.now ≡ ((lane_at w.state l).seats - (lane_at w.state l).busy) * turns limit e w.now
    = ap (λ (r : Queue). (r.seats - r.busy) * turns limit e w.now) at in
    omega (arith, t, z, after)

-- an exchange with a host ended: no turn is used up
left_settled : (limit e l h : ℕ) (how : Ending) (stays : Bool) (w : World) → 0 < limit → (host_at w.state h).busy ≡ true → IsSound l limit w
    → left limit e l w ≤ left limit e l (settles true h how stays w)
left_settled limit e l h how stays w p taken s =
    let q : Peer = host_at w.state h in
    let i : h < length w.state.hosts = known_busy w.state h taken in
    let to : ℕ = next_lane how q.lane (length w.state.lanes) in
    let r : Peer = without_seat q to stays in
    let c : Bool = not (is_none r.jobs) in
    let il : to < length w.state.lanes = next_lane_inside how q.lane (length w.state.lanes) s.schedule.some in
    let mid : List Queue = join_if c w.state.lanes to q.owner h w.now in
    let iq : q.lane < length mid = omega (arith, s.schedule.inside h, join_if_length c w.state.lanes to q.owner h w.now) in
    let v : State = settled w.state h how stays w.now in
    let taken_there : 0 < (get_or mid q.lane no_lane).busy = omega (arith, busy_lane w.state h s.schedule taken, join_if_busy c w.state.lanes to q.owner h w.now q.lane il) in
    let busy : (lane_at w.state l).busy ≡ (lane_at v l).busy + some_if (q.lane == l) 1
    = sym (join_if_busy c w.state.lanes to q.owner h w.now l il) ∙ end_at_busy mid q.lane l iq taken_there in
    let seats : (lane_at v l).seats ≡ (lane_at w.state l).seats = seats_ended mid l q.lane iq ∙ seats_joined c w.state.lanes l to q.owner h w.now il in
    let t = total_change (gives limit e l w.ends) (gives limit e l w.ends) w.state.hosts h r (λ j n x. refl) i in
    let new : gives limit e l w.ends h r ≡ 0 = ap (λ b. some_if b (turns limit e (w.ends h))) (and_right (to == l) false refl) in
    let old : gives limit e l w.ends h q ≡ some_if (q.lane == l) (turns limit e (w.ends h))
    = ap (λ b. some_if ((q.lane == l) && b) (turns limit e (w.ends h))) taken ∙ ap (λ b. some_if b (turns limit e (w.ends h))) (and_true (q.lane == l)) in
    let fits : (lane_at w.state l).busy ≤ (lane_at w.state l).seats = (s.schedule.lane l).fits in
    elim (cases_eq l q.lane) [
      | inl same ↦
          (let here : (q.lane == l) ≡ true = test_same q.lane l same in
          let one : some_if (q.lane == l) 1 ≡ 1 = ap (λ b. some_if b 1) here in
          let gave : some_if (q.lane == l) (turns limit e (w.ends h)) ≡ turns limit e (w.ends h) = ap (λ b. some_if b (turns limit e (w.ends h))) here in
          let less : turns limit e (w.ends h) ≤ turns limit e w.now = turns_earlier limit e w.now (w.ends h) p (s.future h (and_from (q.lane == l) q.busy here taken)) in
          let more : ((lane_at v l).seats - (lane_at v l).busy) * turns limit e w.now ≡ ((lane_at w.state l).seats - (lane_at w.state l).busy) * turns limit e w.now + turns limit e w.now
          = one_more (lane_at v l).seats (lane_at v l).busy (turns limit e w.now) (omega (arith, busy, seats, fits, one))
          ∙ ap (λ n. n + turns limit e w.now) (same_product (lane_at v l).seats ((lane_at v l).busy + 1) (lane_at w.state l).seats (lane_at w.state l).busy (turns limit e w.now) seats (omega (arith, busy, one))) in
          omega (arith, t, new, old, gave, less, more))
      | inr other ↦
          (let there : (q.lane == l) ≡ false = test_other q.lane l other in
          let one : some_if (q.lane == l) 1 ≡ 0 = ap (λ b. some_if b 1) there in
          let gave : some_if (q.lane == l) (turns limit e (w.ends h)) ≡ 0 = ap (λ b. some_if b (turns limit e (w.ends h))) there in
          let same = same_product (lane_at v l).seats (lane_at v l).busy (lane_at w.state l).seats (lane_at w.state l).busy (turns limit e w.now) seats (omega (arith, busy, one)) in
          omega (arith, t, new, old, gave, same))
    ]

-- a host is given to another owner and lane
total_given : (b : Bool) (limit e l h owner to : ℕ) (ends : ℕ → ℕ) (s : State) → is_idle (host_at s h) ≡ b → h < length s.hosts
    → total (gives limit e l ends) (given_if b s.hosts h owner to) ≡ total (gives limit e l ends) s.hosts
total_given false limit e l h owner to ends s m i = refl
total_given true limit e l h owner to ends s m i =
    let p : Peer = host_at s h in
    let t = total_change (gives limit e l ends) (gives limit e l ends) s.hosts h (given p owner to) (λ j n x. refl) i in
    let same : gives limit e l ends h (given p owner to) ≡ gives limit e l ends h p = ap (λ b. some_if b (turns limit e (ends h))) (idle_busy l owner to p (idle_parts p m).0) in
    omega (arith, t, same)

left_assigned : (limit e l h owner to : ℕ) (w : World) → h < length w.state.hosts
    → left limit e l (record { state = assigned w.state h owner to; now = w.now; ends = w.ends }) ≡ left limit e l w
left_assigned limit e l h owner to w i = omega (arith, total_given (is_idle (host_at w.state h)) limit e l h owner to w.ends w.state refl i)

-- ---- nobody starves

in_behind : (h : ℕ) (xs ys : List ℕ) → IsIn h ys → IsIn h (xs ++ ys)
in_behind h [] ys i = i
in_behind h (x ∷ xs) ys i = inr (in_behind h xs ys i)

-- what is to be shown behind a world: who waits there begins, or the moment was not passed
abbrev Goal : ℕ → ℕ → ℕ → List Event → World → Type 0
Goal limit e h es w = IsIn h (begin_in limit w es) ⊎ ((run limit w es).now ≤ e)

abbrev Stays : ℕ → ℕ → ℕ → ℕ → ℕ → List Event → World → Type 0
Stays limit e l cap h es w = (rank : ℕ) → Waits limit e l cap h w rank → IsPunctual l limit w es → AtMost cap l limit w es → Goal limit e h es w

hands_stays : (b : Bool) (limit e l cap h g job : ℕ) (w : World) (rank : ℕ) (es : List Event) → nat_lt g (length w.state.hosts) ≡ b → Waits limit e l cap h w rank
    → Stays limit e l cap h es (hands b g job w) → IsPunctual l limit (hands b g job w) es → AtMost cap l limit (hands b g job w) es → Goal limit e h es (hands b g job w)
hands_stays false limit e l cap h g job w rank es m x f k o = f rank x k o
hands_stays true limit e l cap h g job w rank es m x f k o =
    let i : g < length w.state.hosts = ltb-true g (length w.state.hosts) m in
    let p : Peer = host_at w.state g in
    f rank
    (record {
      sound = sound_hands l true limit g job w m x.sound;
      stands = (
        x.stands.0,
        x.stands.1,
        circle_joined (is_idle p) w.state.lanes l p.lane p.owner g w.now x.stands.0 x.stands.1 h (x.sound.schedule.inside g) x.stands.2,
        x.stands.3,
      );
      enough = omega (arith, x.enough, left_handed limit e l g job w i x.sound.schedule);
    })
    k o

-- who is asked for in its own lane: it begins, or one before it does
here_stays : (limit e l cap h g : ℕ) (w : World) (rank : ℕ) (es : List Event) → 0 < limit → who w.now w.state l ≡ Some g → Waits limit e l cap h w rank
    → length (circle_in l w) ≤ cap → Stays limit e l cap h es (begins (Some g) limit l w) → IsPunctual l limit (begins (Some g) limit l w) es → AtMost cap l limit (begins (Some g) limit l w) es
    → IsIn h (g ∷ begin_in limit (begins (Some g) limit l w) es) ⊎ ((run limit (begins (Some g) limit l w) es).now ≤ e)
here_stays limit e l cap h g w rank es p o x c f k a =
    let m = who_parts w.now w.state l g o in
    let q : Queue = lane_at w.state l in
    elim (turn cap h g (circle_in l w) rank c m.1 x.stands) [
      | inl began ↦ inl (inl began)
      | inr later ↦
          (let il : l < length w.state.lanes = lane_known w.state l w.now m.0 in
          let at : lane_at (seated w.state l w.now g) l ≡ begun w.now q = get_or-set_same w.state.lanes l (begun w.now q) no_lane il in
          let early : w.now ≤ e = within limit e l cap h w rank p x in
          elim (f (rank - 1)
          (record {
            sound = sound_begins l (Some g) limit l w o x.sound;
            stands = (
              later.1.0,
              later.1.1,
              subst (λ (r : Queue). StandsAt (circle_at w.now r) later.1.0 later.1.1 h) (sym at)
                  (stands_rested w.now (rest_at w.now q.resting) (turned (circle_in l w)) later.1.0 later.1.1 h later.1.2),
              later.1.3,
            );
            enough = omega (arith, x.enough, later.0, left_here limit e l g w p early o x.sound);
          })
          k a) [
            | inl began ↦ inl (inr began)
            | inr kept ↦ inr kept
          ])
    ]

there_stays : (limit e l cap n h g : ℕ) (w : World) (rank : ℕ) (es : List Event) → (l ≡ n → ⊥) → who w.now w.state n ≡ Some g → Waits limit e l cap h w rank
    → Stays limit e l cap h es (begins (Some g) limit n w) → IsPunctual l limit (begins (Some g) limit n w) es → AtMost cap l limit (begins (Some g) limit n w) es
    → IsIn h (g ∷ begin_in limit (begins (Some g) limit n w) es) ⊎ ((run limit (begins (Some g) limit n w) es).now ≤ e)
there_stays limit e l cap n h g w rank es d o x f k a =
    let at : lane_at (seated w.state n w.now g) l ≡ lane_at w.state l = get_or-set_other w.state.lanes n l (begun w.now (lane_at w.state n)) no_lane d in
    elim (f rank
    (record {
      sound = sound_begins l (Some g) limit n w o x.sound;
      stands = subst (λ (r : Queue). Before cap (circle_at w.now r) h rank) (sym at) x.stands;
      enough = omega (arith, x.enough, left_there limit e l n g w d o x.sound);
    })
    k a) [
      | inl began ↦ inl (inr began)
      | inr kept ↦ inr kept
    ]

asks_stays : (o : Option ℕ) (limit e l cap n h : ℕ) (w : World) (rank : ℕ) (es : List Event) → 0 < limit → who w.now w.state n ≡ o → Waits limit e l cap h w rank
    → length (circle_in l w) ≤ cap → Stays limit e l cap h es (begins o limit n w) → IsPunctual l limit (begins o limit n w) es → AtMost cap l limit (begins o limit n w) es
    → IsIn h (option_to_list o ++ begin_in limit (begins o limit n w) es) ⊎ ((run limit (begins o limit n w) es).now ≤ e)
asks_stays None limit e l cap n h w rank es p o x c f k a = f rank x k a
asks_stays (Some g) limit e l cap n h w rank es p o x c f k a =
    elim (cases_eq n l) [
      | inl same ↦
          (let P : ℕ → Type 0 = λ n. who w.now w.state n ≡ Some g → Stays limit e l cap h es (begins (Some g) limit n w) → IsPunctual l limit (begins (Some g) limit n w) es
          → AtMost cap l limit (begins (Some g) limit n w) es
          → IsIn h (g ∷ begin_in limit (begins (Some g) limit n w) es) ⊎ ((run limit (begins (Some g) limit n w) es).now ≤ e) in
          subst P (sym same) (λ o f k a. here_stays limit e l cap h g w rank es p o x c f k a) o f k a)
      | inr other ↦ there_stays limit e l cap n h g w rank es (λ e. other (sym e)) o x f k a
    ]

settles_stays : (b : Bool) (limit e l cap h g : ℕ) (how : Ending) (stays : Bool) (w : World) (rank : ℕ) (es : List Event) → 0 < limit → (host_at w.state g).busy ≡ b
    → Waits limit e l cap h w rank → Stays limit e l cap h es (settles b g how stays w) → IsPunctual l limit (settles b g how stays w) es → AtMost cap l limit (settles b g how stays w) es
    → Goal limit e h es (settles b g how stays w)
settles_stays false limit e l cap h g how stays w rank es p m x f k a = f rank x k a
settles_stays true limit e l cap h g how stays w rank es p m x f k a =
    let q : Peer = host_at w.state g in
    let to : ℕ = next_lane how q.lane (length w.state.lanes) in
    let c : Bool = not (is_none (without_seat q to stays).jobs) in
    let il : to < length w.state.lanes = next_lane_inside how q.lane (length w.state.lanes) x.sound.schedule.some in
    let mid : List Queue = join_if c w.state.lanes to q.owner g w.now in
    let iq : q.lane < length mid = omega (arith, x.sound.schedule.inside g, join_if_length c w.state.lanes to q.owner g w.now) in
    f rank
    (record {
      sound = sound_settles l true limit g how stays w m x.sound;
      stands = (
        x.stands.0,
        x.stands.1,
        subst (λ (ls : List Line). StandsAt ls x.stands.0 x.stands.1 h) (sym (circle_ended mid l q.lane w.now iq))
            (circle_joined c w.state.lanes l to q.owner g w.now x.stands.0 x.stands.1 h il x.stands.2),
        x.stands.3,
      );
      enough = omega (arith, x.enough, left_settled limit e l g how stays w p m x.sound);
    })
    k a

blames_stays : (b : Bool) (limit e l cap h g : ℕ) (w : World) (rank : ℕ) (es : List Event) → nat_lt g (length w.state.hosts) ≡ b → Waits limit e l cap h w rank
    → Stays limit e l cap h es (blames b g w) → IsPunctual l limit (blames b g w) es → AtMost cap l limit (blames b g w) es → Goal limit e h es (blames b g w)
blames_stays false limit e l cap h g w rank es m x f k a = f rank x k a
blames_stays true limit e l cap h g w rank es m x f k a =
    let p : Peer = host_at w.state g in
    f rank
    (record {
      sound = sound_blames l true limit g w m x.sound;
      stands = x.stands;
      enough = omega (arith, x.enough, left_assigned limit e l g p.owner (next_lane Failed p.lane (length w.state.lanes)) w (ltb-true g (length w.state.hosts) m));
    })
    k a

renews_stays : (b : Bool) (limit e l cap h g owner : ℕ) (w : World) (rank : ℕ) (es : List Event) → nat_lt g (length w.state.hosts) ≡ b → Waits limit e l cap h w rank
    → Stays limit e l cap h es (renews b g owner w) → IsPunctual l limit (renews b g owner w) es → AtMost cap l limit (renews b g owner w) es → Goal limit e h es (renews b g owner w)
renews_stays false limit e l cap h g owner w rank es m x f k a = f rank x k a
renews_stays true limit e l cap h g owner w rank es m x f k a =
    f rank
    (record {
      sound = sound_renews l true limit g owner w m x.sound;
      stands = x.stands;
      enough = omega (arith, x.enough, left_assigned limit e l g owner (first_lane (length w.state.lanes)) w (ltb-true g (length w.state.hosts) m));
    })
    k a

-- where one stands in a circle and nothing may begin, each seat is taken
pub no_seat : (now l k n h : ℕ) (s : State) → may_begin now (lane_at s l) ≡ false → StandsAt (circle_at now (lane_at s l)) k n h → (lane_at s l).seats ≤ (lane_at s l).busy
no_seat now l k n h s m x =
    let q : Queue = lane_at s l in
    elim (cases_lt q.busy q.seats) [
      | inl free ↦
          absurd (false≢true (sym m ∙ and_from (nat_lt q.busy q.seats) (is_awaited now q)
          (lt-ltb q.busy q.seats free) (awaited now q.resting q.circle k n h x)))
      | inr full ↦ full
    ]

all_stay : (limit e l cap h : ℕ) (es : List Event) (w : World) → 0 < limit → Stays limit e l cap h es w
all_stay limit e l cap h [] w p rank x k a = inr (within limit e l cap h w rank p x)
all_stay limit e l cap h (Adds owner ∷ es) w p rank x k a =
    all_stay limit e l cap h es (happens limit w (Adds owner)) p rank
    (record { sound = sound_happens l limit w (Adds owner) tt x.sound; stands = x.stands; enough = omega (arith, x.enough, left_added limit e l owner w) }) k.1 a.1
all_stay limit e l cap h (Due g job ∷ es) w p rank x k a =
    hands_stays (nat_lt g (length w.state.hosts)) limit e l cap h g job w rank es refl x (all_stay limit e l cap h es (happens limit w (Due g job)) p) k.1 a.1
all_stay limit e l cap h (Asks n ∷ es) w p rank x k a =
    asks_stays (who w.now w.state n) limit e l cap n h w rank es p refl x a.0 (all_stay limit e l cap h es (happens limit w (Asks n)) p) k.1 a.1
all_stay limit e l cap h (Ended g how stays ∷ es) w p rank x k a =
    settles_stays (host_at w.state g).busy limit e l cap h g how stays w rank es p refl x (all_stay limit e l cap h es (happens limit w (Ended g how stays)) p) k.1 a.1
all_stay limit e l cap h (Blames g ∷ es) w p rank x k a =
    blames_stays (nat_lt g (length w.state.hosts)) limit e l cap h g w rank es refl x (all_stay limit e l cap h es (happens limit w (Blames g)) p) k.1 a.1
all_stay limit e l cap h (Renews g owner ∷ es) w p rank x k a =
    renews_stays (nat_lt g (length w.state.hosts)) limit e l cap h g owner w rank es refl x (all_stay limit e l cap h es (happens limit w (Renews g owner)) p) k.1 a.1
all_stay limit e l cap h (Passes time ∷ es) w p rank x k a =
    let full = no_seat w.now l x.stands.0 x.stands.1 h w.state k.0.0 x.stands.2 in
    let seats : ℕ = (lane_at w.state l).seats in
    let busy : ℕ = (lane_at w.state l).busy in
    all_stay limit e l cap h es (happens limit w (Passes time)) p rank
    (record {
      sound = sound_happens l limit w (Passes time) k.0 x.sound;
      stands = (x.stands.0, x.stands.1, stands_later w.now time (lane_at w.state l).resting (lane_at w.state l).circle x.stands.0 x.stands.1 h x.stands.2, x.stands.3);
      enough = omega (arith, x.enough, none_of seats busy (turns limit e w.now) full, none_of seats busy (turns limit e (w.now + time)) full);
    })
    k.1 a.1

gives_enough : (limit e l n h : ℕ) (w : World) → n ≤ turns limit e (w.ends h) → is_busy_in l (host_at w.state h) ≡ true → n ≤ gives limit e l w.ends h (host_at w.state h)
gives_enough limit e l n h w m t = subst (λ b. n ≤ some_if b (turns limit e (w.ends h))) (sym t) m

enough_left : (limit l rank : ℕ) (w : World) → 0 < limit → 0 < (lane_at w.state l).seats → IsSound l limit w
    → rank < left limit (w.now + (rank / (lane_at w.state l).seats + 1) * limit) l w
enough_left limit l rank w p q s =
    let seats : ℕ = (lane_at w.state l).seats in
    let busy : ℕ = (lane_at w.state l).busy in
    let rounds : ℕ = rank / seats + 1 in
    let e : ℕ = w.now + rounds * limit in
    let own = total_enough (is_busy_in l) rounds (gives limit e l w.ends) w.state.hosts
    (λ h t. gives_enough limit e l rounds h w
    (turns_enough limit rounds w.now (w.ends h) p (s.soon h t)) t) in
    let counted : rounds * count_by (is_busy_in l) w.state.hosts ≡ rounds * busy = ap (λ n. rounds * n) (sym (s.schedule.busy l)) in
    let each : rounds ≤ turns limit e w.now = turns_enough limit rounds w.now w.now p (omega arith) in
    let all = shares rounds seats busy (turns limit e w.now) (s.schedule.lane l).fits each in
    let few : rank < rounds * seats = omega (arith, lt-div-mul-add {a = rank} {b = seats} q, suc-mul (rank / seats) seats) in
    omega (arith, own, all, few, counted)

most_now : (cap l limit : ℕ) (w : World) (es : List Event) → AtMost cap l limit w es → length (circle_in l w) ≤ cap
most_now cap l limit w [] a = a
most_now cap l limit w (e ∷ es) a = a.0

pub no_host_starves : NoHostStarves
no_host_starves plans limit l cap k n h before after some p q kept keeps most x late =
    let w : World = run limit (started plans) before in
    let s : IsSound l limit w = sound_run l limit (started plans) before kept (sound_started l limit plans some) in
    let rank : ℕ = (n + 1) * cap - 1 in
    let split : (n + 1) * cap ≡ n * cap + cap = omega (arith, suc-mul n cap) in
    let less = stands_less (circle_in l w) k n h x in
    let few = most_now cap l limit w after most in
    elim (all_stay limit (w.now + (rank / (lane_at w.state l).seats + 1) * limit) l cap h after w p rank
    (record { sound = s; stands = (k, n, x, omega (arith, less, few, split)); enough = enough_left limit l rank w p q s }) keeps most) [
      | inl began ↦ began
      | inr early ↦ absurd (omega (arith, early, late))
    ]
