-- What holds of each lane and its circle in every run.
use Rattle.std.proofs.Common.{◌≡◌, ℕ, zero, suc, ◌+◌, ◌<◌, ◌≤◌, Bool, true, false, List, [], ◌∷◌, ◌++◌, length, refl, sym, ap, ◌∙◌, arith, subst, inl, inr, get_or, Some, None, Option}
use Rattle.std.specs.Prelude.{◌==◌, nat_lt, nat_le, not, count_by, if◌then◌else◌}
use Rattle.std.specs.List.{AllByRecursion}
use Rattle.std.proofs.Math.ListN.{set}
use Rattle.std.proofs.lemmas.Bool.{cases_eq, cases_lt, eq-eqb, ne_eqb, leb-true, leb-false, eqb-true, false≢true}
use Rattle.std.proofs.lemmas.List.Sums.{sum_by-cons, sum_by_push}
use Rattle.ocm_schedule.specs.declared.places.Place.{Place}
use Rattle.ocm_schedule.specs.declared.schedules.Ending.{Ending}
use Rattle.ocm_schedule.specs.declared.schedules.Plan.{Plan}
use Rattle.ocm_schedule.specs.Circles as circle
use Rattle.ocm_schedule.specs.Circles.{Line, some, behind, first_of, first_in, turned}
use Rattle.ocm_schedule.specs.Lanes.{Queue, InOrder, joined, ended, begun, rest_at, with_rested, circle_at}
use Rattle.ocm_schedule.specs.Schedules.{Peer, no_lane, lane_at, host_at, is_none, is_idle, left_jobs, next_lane, join_if}
use Rattle.ocm_schedule.specs.Runs.{World, Event, Adds, Due, Asks, Ended, Blames, Renews, Passes, who, begins, hands, settles, blames, renews, happens, run, started, circle_in, NothingBeginsEarly, EachStandsOnce, OwnersStandOnce, OthersRest, LanesAsPlanned}
use Rattle.ocm_schedule.proofs.LaneLemmas.{if_both, all_snoc, all_weaker, all_behind}
use Rattle.std.proofs.lemmas.List.{get_or-set_same, get_or-set_other}
use Rattle.ocm_schedule.proofs.MakeLemmas.{each_planned, made_is}
use Rattle.ocm_schedule.proofs.JobLemmas.{keeps_run}

-- what holds of each lane at a moment, and goes on holding
record IsKept (P : ℕ → ℕ → Queue → Type 0) : Type 0 where
  joins : (l now : ℕ) (q : Queue) (owner host : ℕ) → P l now q → P l now (joined q owner host now)
  begins : (l now : ℕ) (q : Queue) → P l now q → P l now (begun now q)
  ends : (l now : ℕ) (q : Queue) → P l now q → P l now (ended q)
  later : (l now time : ℕ) (q : Queue) → P l now q → P l (now + time) q

abbrev pub Each : (ℕ → Queue → Type 0) → List Queue → Type 0
Each P lanes = (l : ℕ) → P l (get_or lanes l no_lane)

set_past : (lanes : List Queue) (k : ℕ) (v : Queue) → length lanes ≤ k → set lanes k v ≡ lanes
set_past [] k v h = refl
set_past (q ∷ qs) zero v h = absurd (omega (arith, h))
set_past (q ∷ qs) (suc k) v h = ap (λ ls. q ∷ ls) (set_past qs k v (omega (arith, h)))

pub each_set : (P : ℕ → Queue → Type 0) (lanes : List Queue) (k : ℕ) (v : Queue) → Each P lanes → P k v → Each P (set lanes k v)
each_set P lanes k v f c l =
    elim (cases_lt k (length lanes)) [
      | inl inside ↦
          elim (cases_eq l k) [
            | inl same ↦ subst (λ n. P n (get_or (set lanes k v) n no_lane)) (sym same) (subst (P k) (sym (get_or-set_same lanes k v no_lane inside)) c)
            | inr other ↦ subst (P l) (sym (get_or-set_other lanes k l v no_lane other)) (f l)
          ]
      | inr past ↦ subst (λ (qs : List Queue). P l (get_or qs l no_lane)) (sym (set_past lanes k v past)) (f l)
    ]

abbrev In : (ℕ → ℕ → Queue → Type 0) → World → Type 0
In P w = Each (λ l q. P l w.now q) w.state.lanes

kept_join_if : (P : ℕ → ℕ → Queue → Type 0) → IsKept P → (b : Bool) (now : ℕ) (lanes : List Queue) (k owner host : ℕ) → Each (λ l q. P l now q) lanes → Each (λ l q. P l now q) (join_if b lanes k owner host now)
kept_join_if P i false now lanes k owner host f = f
kept_join_if P i true now lanes k owner host f =
    each_set (λ l q. P l now q) lanes k (joined (get_or lanes k no_lane) owner host now) f (i.joins k now (get_or lanes k no_lane) owner host (f k))

kept_hands : (P : ℕ → ℕ → Queue → Type 0) → IsKept P → (b : Bool) (h job : ℕ) (w : World) → In P w → In P (hands b h job w)
kept_hands P i false h job w f = f
kept_hands P i true h job w f = let p : Peer = host_at w.state h in kept_join_if P i (is_idle p) w.now w.state.lanes p.lane p.owner h f

kept_begins : (P : ℕ → ℕ → Queue → Type 0) → IsKept P → (o : Option ℕ) (limit n : ℕ) (w : World) → In P w → In P (begins o limit n w)
kept_begins P i None limit n w f = f
kept_begins P i (Some h) limit n w f =
    each_set (λ l q. P l w.now q) w.state.lanes n (begun w.now (lane_at w.state n)) f (i.begins n w.now (lane_at w.state n) (f n))

kept_settles : (P : ℕ → ℕ → Queue → Type 0) → IsKept P → (b : Bool) (h : ℕ) (how : Ending) (stays : Bool) (w : World) → In P w → In P (settles b h how stays w)
kept_settles P i false h how stays w f = f
kept_settles P i true h how stays w f =
    let p : Peer = host_at w.state h in
    let to : ℕ = next_lane how p.lane (length w.state.lanes) in
    let more : Bool = not (is_none (left_jobs stays p.jobs)) in
    let mid : List Queue = join_if more w.state.lanes to p.owner h w.now in
    let g = kept_join_if P i more w.now w.state.lanes to p.owner h f in
    each_set (λ l q. P l w.now q) mid p.lane (ended (get_or mid p.lane no_lane)) g (i.ends p.lane w.now (get_or mid p.lane no_lane) (g p.lane))

kept_blames : (P : ℕ → ℕ → Queue → Type 0) (b : Bool) (h : ℕ) (w : World) → In P w → In P (blames b h w)
kept_blames P false h w f = f
kept_blames P true h w f = f

kept_renews : (P : ℕ → ℕ → Queue → Type 0) (b : Bool) (h owner : ℕ) (w : World) → In P w → In P (renews b h owner w)
kept_renews P false h owner w f = f
kept_renews P true h owner w f = f

kept_happens : (P : ℕ → ℕ → Queue → Type 0) → IsKept P → (limit : ℕ) (w : World) (e : Event) → In P w → In P (happens limit w e)
kept_happens P i limit w (Adds owner) f = f
kept_happens P i limit w (Due h job) f = kept_hands P i (nat_lt h (length w.state.hosts)) h job w f
kept_happens P i limit w (Asks n) f = kept_begins P i (who w.now w.state n) limit n w f
kept_happens P i limit w (Ended h how stays) f = kept_settles P i (host_at w.state h).busy h how stays w f
kept_happens P i limit w (Blames h) f = kept_blames P (nat_lt h (length w.state.hosts)) h w f
kept_happens P i limit w (Renews h owner) f = kept_renews P (nat_lt h (length w.state.hosts)) h owner w f
kept_happens P i limit w (Passes time) f = λ l. i.later l w.now time (lane_at w.state l) (f l)

-- of each lane, in every run
kept_run : (P : ℕ → ℕ → Queue → Type 0) → IsKept P → (limit : ℕ) (w : World) (es : List Event) → In P w → In P (run limit w es)
kept_run P i limit w [] f = f
kept_run P i limit w (e ∷ es) f = kept_run P i limit (happens limit w e) es (kept_happens P i limit w e f)

-- ---- lanes stay as planned

abbrev AsPlanned : List Plan → ℕ → ℕ → Queue → Type 0
AsPlanned plans l now q =
    (q.latest ≤ now + q.pause) × (q.seats ≡ (lane_at (started plans).state l).seats) × (q.pause ≡ (lane_at (started plans).state l).pause)

planned_kept : (plans : List Plan) → IsKept (AsPlanned plans)
planned_kept plans =
    record {
      joins = λ l now q owner host h. (omega (arith, h.0), h.1, h.2);
      begins = λ l now q h. h;
      ends = λ l now q h. h;
      later = λ l now time q h. (omega (arith, h.0), h.1, h.2);
    }

pub lanes_as_planned : LanesAsPlanned
lanes_as_planned plans limit l events some =
    let w : World = run limit (started plans) events in
    let none = each_planned (λ q. q.latest ≤ q.pause) (λ p. omega arith) (omega arith) plans in
    let h = kept_run (AsPlanned plans) (planned_kept plans) limit (started plans) events (λ l. (omega (arith, none l), refl, refl)) l in
    (h.1, omega (arith, h.0, h.2))

-- ---- what holds of the circle of each lane

record IsKeptIn (P : ℕ → List Line → Type 0) : Type 0 where
  none : P 0 []
  joins : (now : ℕ) (ls : List Line) (p : Place) → p.from ≤ now → P now ls → P now (circle.joined ls p)
  turns : (now : ℕ) (ls : List Line) → P now ls → P now (turned ls)
  later : (now time : ℕ) (ls : List Line) → P now ls → P (now + time) ls

rested_if : (P : List Line → Type 0) (t : Bool) (ls ms : List Line) → (t ≡ true → P ls) → P ms → P (if t then ls else ms)
rested_if P true ls ms f c = f refl
rested_if P false ls ms f c = c

kept_rested : (P : ℕ → List Line → Type 0) → IsKeptIn P → (now : ℕ) (ps : List Place) (ls : List Line) → P now ls → P now (with_rested now ps ls)
kept_rested P i now [] ls c = c
kept_rested P i now (p ∷ ps) ls c =
    rested_if (P now) (nat_le p.from now) (with_rested now ps (circle.joined ls p)) ls
    (λ e. kept_rested P i now ps (circle.joined ls p) (i.joins now ls p (leb-true p.from now e) c)) c

kept_in : (P : ℕ → List Line → Type 0) → IsKeptIn P → IsKept (λ l now q. P now q.circle)
kept_in P i =
    record {
      joins = λ l now q owner host h. h;
      begins = λ l now q h. i.turns now (circle_at now q) (kept_rested P i now q.resting q.circle h);
      ends = λ l now q h. h;
      later = λ l now time q h. i.later now time q.circle h;
    }

-- of the circle of a lane, in every run
in_every_run : (P : ℕ → List Line → Type 0) → IsKeptIn P → (plans : List Plan) (limit l : ℕ) (events : List Event)
    → let w = run limit (started plans) events in P w.now (circle_in l w)
in_every_run P i plans limit l events =
    let w : World = run limit (started plans) events in
    let q = lane_at w.state l in
    kept_rested P i w.now q.resting q.circle
    (kept_run (λ l now q. P now q.circle) (kept_in P i) limit (started plans) events (each_planned (λ q. P 0 q.circle) (λ p. i.none) i.none plans) l)

-- ---- nothing begins before its pause is over

-- each place of a circle has a moment that has come
abbrev HaveCome : ℕ → List Place → Type 0
HaveCome now = AllByRecursion (λ (p : Place). p.from ≤ now)

abbrev AllCame : ℕ → List Line → Type 0
AllCame now = AllByRecursion (λ (l : Line). HaveCome now l.places)

came_joins : (now : ℕ) (ls : List Line) (p : Place) → p.from ≤ now → AllCame now ls → AllCame now (circle.joined ls p)
came_joins now [] p h c = ((h, tt), tt)
came_joins now (l ∷ ls) p h c =
    if_both (AllCame now) (l.owner == p.owner) (record { owner = l.owner; places = l.places ++ p ∷ [] } ∷ ls) (l ∷ circle.joined ls p)
    (all_snoc (λ (q : Place). q.from ≤ now) l.places p c.0 h, c.1) (c.0, came_joins now ls p h c.1)

came_turns : (now : ℕ) (ls : List Line) → AllCame now ls → AllCame now (turned ls)
came_turns now [] c = c
came_turns now (l ∷ ls) c =
    let last : Line = record { owner = l.owner; places = behind l.places } in
    if_both (AllCame now) (some (behind l.places)) (ls ++ last ∷ []) ls
    (all_snoc (λ (l : Line). HaveCome now l.places) ls last c.1 (all_behind (λ (p : Place). p.from ≤ now) l.places c.0)) c.1

came_later : (now time : ℕ) (ls : List Line) → AllCame now ls → AllCame (now + time) ls
came_later now time =
    all_weaker (λ (l : Line). HaveCome now l.places) (λ (l : Line). HaveCome (now + time) l.places)
    (λ l. all_weaker (λ (p : Place). p.from ≤ now) (λ (p : Place). p.from ≤ now + time) (λ p h. omega (arith, h)) l.places)

came_kept : IsKeptIn AllCame
came_kept = record { none = tt; joins = came_joins; turns = came_turns; later = came_later }

first_came : (now : ℕ) (ps : List Place) (p : Place) → HaveCome now ps → first_of ps ≡ Some p → p.from ≤ now
first_came now [] p c e = cc
first_came now (q ∷ qs) p c e = let same : q.from ≡ p.from = cc in omega (arith, c.0, same)

came_first : (now : ℕ) (ls : List Line) (p : Place) → AllCame now ls → first_in ls ≡ Some p → p.from ≤ now
came_first now [] p c e = cc
came_first now (l ∷ ls) p c e = first_came now l.places p c.0 e

pub nothing_begins_early : NothingBeginsEarly
nothing_begins_early plans limit l place events some e =
    let w : World = run limit (started plans) events in
    came_first w.now (circle_in l w) place (in_every_run AllCame came_kept plans limit l events) e

-- ---- owners stand once

abbrev one : Bool → ℕ
one t = if t then 1 else 0

abbrev often : ℕ → List Line → ℕ
often a ls = count_by (λ (l : Line). l.owner == a) ls

often_cons : (a : ℕ) (l : Line) (ls : List Line) → often a (l ∷ ls) ≡ one (l.owner == a) + often a ls
often_cons a l ls = sum_by-cons (λ (m : Line). one (m.owner == a)) l ls

here : (a b : ℕ) → b ≡ a → one (b == a) ≡ 1
here a b e = ap (λ t. one t) (eq-eqb b a e)

elsewhere : (a b : ℕ) → (b ≡ a → ⊥) → one (b == a) ≡ 0
elsewhere a b n = ap (λ t. one t) (ne_eqb b a n)

apart : (a b : ℕ) → (a == b) ≡ false → a ≡ b → ⊥
apart a b e same = false≢true (sym e ∙ eq-eqb a b same)

-- the others stand as often as before, and one that joins once
often_if : (t : Bool) (a : ℕ) (l : Line) (ls : List Line) (p : Place) → (l.owner == p.owner) ≡ t → ((b : ℕ) → often b ls ≤ 1) → often a (l ∷ ls) ≤ 1
    → (((b : ℕ) → often b ls ≤ 1) → often a (circle.joined ls p) ≤ 1) → ((p.owner ≡ a → ⊥) → often a (circle.joined ls p) ≡ often a ls)
    → often a (if t then record { owner = l.owner; places = l.places ++ p ∷ [] } ∷ ls else l ∷ circle.joined ls p) ≤ 1
often_if true a l ls p e f h r s = omega (arith, h, often_cons a l ls, often_cons a (record { owner = l.owner; places = l.places ++ p ∷ [] }) ls)
often_if false a l ls p e f h r s =
    elim (cases_eq p.owner a) [
      | inl same ↦ (let none = elsewhere a l.owner (λ o. apart l.owner p.owner e (o ∙ sym same)) in omega (arith, r f, none, often_cons a l (circle.joined ls p)))
      | inr other ↦ omega (arith, h, often_cons a l ls, s other, often_cons a l (circle.joined ls p))
    ]

often_other_if : (t : Bool) (a : ℕ) (l : Line) (ls : List Line) (p : Place) → often a (circle.joined ls p) ≡ often a ls
    → often a (if t then record { owner = l.owner; places = l.places ++ p ∷ [] } ∷ ls else l ∷ circle.joined ls p) ≡ often a (l ∷ ls)
often_other_if true a l ls p h = omega (arith, often_cons a l ls, often_cons a (record { owner = l.owner; places = l.places ++ p ∷ [] }) ls)
often_other_if false a l ls p h = omega (arith, h, often_cons a l ls, often_cons a l (circle.joined ls p))

often_other : (a : ℕ) (ls : List Line) (p : Place) → (p.owner ≡ a → ⊥) → often a (circle.joined ls p) ≡ often a ls
often_other a [] p n = omega (arith, often_cons a (record { owner = p.owner; places = p ∷ [] }) [], elsewhere a p.owner n)
often_other a (l ∷ ls) p n = often_other_if (l.owner == p.owner) a l ls p (often_other a ls p n)

at_most : (t : Bool) → one t ≤ 1
at_most true = omega arith
at_most false = omega arith

fewer : (l : Line) (ls : List Line) → ((b : ℕ) → often b (l ∷ ls) ≤ 1) → (b : ℕ) → often b ls ≤ 1
fewer l ls f b = omega (arith, f b, often_cons b l ls)

often_joins : (a : ℕ) (ls : List Line) (p : Place) → ((b : ℕ) → often b ls ≤ 1) → often a (circle.joined ls p) ≤ 1
often_joins a [] p f = omega (arith, often_cons a (record { owner = p.owner; places = p ∷ [] }) [], at_most (p.owner == a))
often_joins a (l ∷ ls) p f =
    often_if (l.owner == p.owner) a l ls p refl (fewer l ls f) (f a) (often_joins a ls p) (often_other a ls p)

often_snoc : (a : ℕ) (ls : List Line) (l : Line) → often a (ls ++ l ∷ []) ≡ often a ls + one (l.owner == a)
often_snoc a ls l = sum_by_push (λ (m : Line). one (m.owner == a)) ls l

often_turns : (a : ℕ) (ls : List Line) → often a (turned ls) ≤ often a ls
often_turns a [] = omega arith
often_turns a (l ∷ ls) =
    let last : Line = record { owner = l.owner; places = behind l.places } in
    if_both (λ (ms : List Line). often a ms ≤ often a (l ∷ ls)) (some (behind l.places)) (ls ++ last ∷ []) ls
    (omega (arith, often_cons a l ls, often_snoc a ls last)) (omega (arith, often_cons a l ls))

abbrev IsOwn : Line → Type 0
IsOwn l = (some l.places ≡ true) × AllByRecursion (λ (p : Place). p.owner ≡ l.owner) l.places

some_snoc : (ps : List Place) (p : Place) → some (ps ++ p ∷ []) ≡ true
some_snoc [] p = refl
some_snoc (q ∷ qs) p = refl

own_if : (t : Bool) (l : Line) (ls : List Line) (p : Place) → (l.owner == p.owner) ≡ t → AllByRecursion IsOwn (l ∷ ls) → AllByRecursion IsOwn (circle.joined ls p)
    → AllByRecursion IsOwn (if t then record { owner = l.owner; places = l.places ++ p ∷ [] } ∷ ls else l ∷ circle.joined ls p)
own_if true l ls p e h r =
    ((some_snoc l.places p, all_snoc (λ (q : Place). q.owner ≡ l.owner) l.places p h.0.1 (sym (eqb-true l.owner p.owner e))), h.1)
own_if false l ls p e h r = (h.0, r)

own_joins : (ls : List Line) (p : Place) → AllByRecursion IsOwn ls → AllByRecursion IsOwn (circle.joined ls p)
own_joins [] p h = ((refl, (refl, tt)), tt)
own_joins (l ∷ ls) p h = own_if (l.owner == p.owner) l ls p refl h (own_joins ls p h.1)

own_turn_if : (t : Bool) (l : Line) (ls : List Line) → some (behind l.places) ≡ t → AllByRecursion IsOwn (l ∷ ls)
    → AllByRecursion IsOwn (if t then ls ++ record { owner = l.owner; places = behind l.places } ∷ [] else ls)
own_turn_if true l ls e h =
    all_snoc IsOwn ls (record { owner = l.owner; places = behind l.places }) h.1 (e, all_behind (λ (p : Place). p.owner ≡ l.owner) l.places h.0.1)
own_turn_if false l ls e h = h.1

own_turns : (ls : List Line) → AllByRecursion IsOwn ls → AllByRecursion IsOwn (turned ls)
own_turns [] h = h
own_turns (l ∷ ls) h = own_turn_if (some (behind l.places)) l ls refl h

once_kept : IsKeptIn (λ now. EachStandsOnce)
once_kept =
    record {
      none = (λ a. omega arith, tt);
      joins = λ now ls p h c. (λ a. often_joins a ls p c.0, own_joins ls p c.1);
      turns = λ now ls c. (λ a. omega (arith, c.0 a, often_turns a ls), own_turns ls c.1);
      later = λ now time ls c. c;
    }

pub owners_stand_once : OwnersStandOnce
owners_stand_once plans limit l events some = in_every_run (λ now. EachStandsOnce) once_kept plans limit l events

-- ---- the others rest

rests_if : (t : Bool) (now : ℕ) (p : Place) (ps : List Place) → nat_le p.from now ≡ t → AllByRecursion (λ (q : Place). now < q.from) (rest_at now ps)
    → AllByRecursion (λ (q : Place). p.from ≤ q.from) ps → AllByRecursion (λ (q : Place). now < q.from) (if t then rest_at now ps else p ∷ ps)
rests_if true now p ps e r o = r
rests_if false now p ps e r o =
    let late : now < p.from = leb-false p.from now e in (late, all_weaker (λ (q : Place). p.from ≤ q.from) (λ (q : Place). now < q.from) (λ q h. omega (arith, late, h)) ps o)

rest_late : (now : ℕ) (ps : List Place) → InOrder ps → AllByRecursion (λ (q : Place). now < q.from) (rest_at now ps)
rest_late now [] o = tt
rest_late now (p ∷ ps) o = rests_if (nat_le p.from now) now p ps refl (rest_late now ps o.1) o.0

pub others_rest : OthersRest
others_rest plans limit l events some =
    let w : World = run limit (started plans) events in
    rest_late w.now (lane_at w.state l).resting ((keeps_run limit (started plans) events (made_is plans some)).lane l).order
