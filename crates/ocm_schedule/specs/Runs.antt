-- A schedule as time goes on: what may happen, what its workers promise, and when a host has its turn.
use Rattle.std.specs.Prelude.{◌≡◌, ℕ, zero, suc, ◌+◌, ◌-◌, ◌*◌, ◌/◌, ◌<◌, ◌≤◌, ◌⊎◌, Bool, true, false, ◌==◌, nat_lt, if◌then◌else◌, List, [], ◌∷◌, ◌++◌, length, count_by, option_to_list, map, Option, Some, None}
use Rattle.std.specs.List.{AllByRecursion}
use Rattle.ocm_schedule.specs.declared.schedules.Ending.{Ending}
use Rattle.ocm_schedule.specs.declared.places.Place.{Place}
use Rattle.ocm_schedule.specs.declared.schedules.Plan.{Plan}
use Rattle.ocm_schedule.specs.Circles.{Line, some}
use Rattle.ocm_schedule.specs.Lanes.{may_begin, first_host, first_place, circle_at, rest_at, moment, places_of}
use Rattle.ocm_schedule.specs.Schedules.{State, lane_at, host_at, planned, added, handed, seated, settled, blamed, renewed, is_busy_in}

-- a schedule at a moment, and by when the exchange with each host will have ended that is under way
pub record World : Type 0 where
  pub state : State
  pub now : ℕ
  pub ends : ℕ → ℕ

-- a schedule as it is made
abbrev pub started : List Plan → World
started plans = record { state = record { lanes = map planned plans; hosts = [] }; now = 0; ends = λ h. 0 }

-- what may happen
pub data Event : Type 0 where
  Adds : (owner : ℕ) → Event
  Due : (host job : ℕ) → Event
  -- the schedule is asked, and looks at this lane
  Asks : (lane : ℕ) → Event
  Ended : (host : ℕ) (how : Ending) (stays : Bool) → Event
  Blames : (host : ℕ) → Event
  Renews : (host owner : ℕ) → Event
  Passes : (time : ℕ) → Event

-- the host that begins in a lane
abbrev pub who : ℕ → State → ℕ → Option ℕ
who now s l = if may_begin now (lane_at s l) then first_host now (lane_at s l) else None

-- a host began in a lane: its exchange will have ended within the limit
abbrev pub begins : Option ℕ → ℕ → ℕ → World → World
begins None limit l w = w
begins (Some h) limit l w =
    record { state = seated w.state l w.now h; now = w.now; ends = λ g. if h == g then w.now + limit else w.ends g }

abbrev pub hands : Bool → ℕ → ℕ → World → World
hands true h job w = record { state = handed w.state h job w.now; now = w.now; ends = w.ends }
hands false h job w = w

abbrev pub settles : Bool → ℕ → Ending → Bool → World → World
settles true h how stays w = record { state = settled w.state h how stays w.now; now = w.now; ends = w.ends }
settles false h how stays w = w

abbrev pub blames : Bool → ℕ → World → World
blames true h w = record { state = blamed w.state h; now = w.now; ends = w.ends }
blames false h w = w

abbrev pub renews : Bool → ℕ → ℕ → World → World
renews true h owner w = record { state = renewed w.state h owner; now = w.now; ends = w.ends }
renews false h owner w = w

abbrev pub happens : ℕ → World → Event → World
happens limit w (Adds owner) = record { state = added w.state owner; now = w.now; ends = w.ends }
happens limit w (Due h job) = hands (nat_lt h (length w.state.hosts)) h job w
happens limit w (Asks l) = begins (who w.now w.state l) limit l w
happens limit w (Ended h how stays) = settles (host_at w.state h).busy h how stays w
happens limit w (Blames h) = blames (nat_lt h (length w.state.hosts)) h w
happens limit w (Renews h owner) = renews (nat_lt h (length w.state.hosts)) h owner w
happens limit w (Passes time) = record { state = w.state; now = w.now + time; ends = w.ends }

-- a whole run
abbrev pub run : ℕ → World → List Event → World
run limit w [] = w
run limit w (e ∷ es) = run limit (happens limit w e) es

-- the hosts that begin as something happens, and in a whole run
abbrev pub begin_as : World → Event → List ℕ
begin_as w (Adds owner) = []
begin_as w (Due h job) = []
begin_as w (Asks l) = option_to_list (who w.now w.state l)
begin_as w (Ended h how stays) = []
begin_as w (Blames h) = []
begin_as w (Renews h owner) = []
begin_as w (Passes time) = []

abbrev pub begin_in : ℕ → World → List Event → List ℕ
begin_in limit w [] = []
begin_in limit w (e ∷ es) = begin_as w e ++ begin_in limit (happens limit w e) es

-- What the workers promise of a lane, of each moment that passes: they asked until no exchange may begin in it, and each of its exchanges ends
-- in time. Of the other lanes nothing is promised.
abbrev pub Keeps : ℕ → World → Event → Type 0
Keeps l w (Adds owner) = Unit {0}
Keeps l w (Due h job) = Unit {0}
Keeps l w (Asks k) = Unit {0}
Keeps l w (Ended h how stays) = Unit {0}
Keeps l w (Blames h) = Unit {0}
Keeps l w (Renews h owner) = Unit {0}
Keeps l w (Passes time) =
    (may_begin w.now (lane_at w.state l) ≡ false) × ((h : ℕ) → is_busy_in l (host_at w.state h) ≡ true → w.now + time ≤ w.ends h)

abbrev pub IsPunctual : ℕ → ℕ → World → List Event → Type 0
IsPunctual l limit w [] = Unit {0}
IsPunctual l limit w (e ∷ es) = Keeps l w e × IsPunctual l limit (happens limit w e) es

-- a host waits with so many places before it
abbrev pub IsNext : List Place → ℕ → ℕ → Type 0
IsNext [] n h = ⊥
IsNext (p ∷ ps) zero h = p.host ≡ h
IsNext (p ∷ ps) (suc n) h = IsNext ps n h

-- a host waits with so many owners before its own in the circle, and so many of its owner's places before it
abbrev pub StandsAt : List Line → ℕ → ℕ → ℕ → Type 0
StandsAt [] k n h = ⊥
StandsAt (l ∷ ls) zero n h = IsNext l.places n h
StandsAt (l ∷ ls) (suc k) n h = StandsAt ls k n h

-- the circle of a lane at this moment: those that have rested
abbrev pub circle_in : ℕ → World → List Line
circle_in l w = circle_at w.now (lane_at w.state l)

-- never more than so many owners stand in the circle at one time
abbrev pub AtMost : ℕ → ℕ → ℕ → World → List Event → Type 0
AtMost m l limit w [] = length (circle_in l w) ≤ m
AtMost m l limit w (e ∷ es) = (length (circle_in l w) ≤ m) × AtMost m l limit (happens limit w e) es

abbrev pub IsIn : ℕ → List ℕ → Type 0
IsIn h [] = ⊥
IsIn h (x ∷ xs) = (x ≡ h) ⊎ IsIn h xs

-- Nobody starves: whatever happened before and whatever happens later, with whichever hosts, a host that has rested and has n of its owner's
-- before it in its lane begins, after fewer than (n + 1) * m turns, shared by that lane's seats, if never more than m owners stand in its circle
-- at one time. Of the other lanes nothing is promised.
abbrev pub NoHostStarves : Type 0
NoHostStarves =
    (plans : List Plan) (limit l m k n h : ℕ) (before after : List Event) → 0 < length plans → 0 < limit
    → let start = started plans in
    let w = run limit start before in
    let v = run limit w after in
    let seats = (lane_at w.state l).seats in
    0 < seats → IsPunctual l limit start before → IsPunctual l limit w after → AtMost m l limit w after
    → StandsAt (circle_in l w) k n h
    → w.now + (((n + 1) * m - 1) / seats + 1) * limit < v.now
    → IsIn h (begin_in limit w after)

-- Nothing begins before its pause is over: the moment of the place whose turn it is has come, in every run.
abbrev pub NothingBeginsEarly : Type 0
NothingBeginsEarly =
    (plans : List Plan) (limit l : ℕ) (place : Place) (events : List Event) → 0 < length plans
    → let w = run limit (started plans) events in
    first_place w.now (lane_at w.state l) ≡ Some place → place.from ≤ w.now

-- Each owner stands in a circle once, with places that are its own, and with one at least.
abbrev pub EachStandsOnce : List Line → Type 0
EachStandsOnce ls =
    ((a : ℕ) → count_by (λ l. l.owner == a) ls ≤ 1)
    × AllByRecursion (λ l. (some l.places ≡ true) × AllByRecursion (λ p. p.owner ≡ l.owner) l.places) ls

-- Owners stand in the circle of a lane once each, in every run.
abbrev pub OwnersStandOnce : Type 0
OwnersStandOnce =
    (plans : List Plan) (limit l : ℕ) (events : List Event) → 0 < length plans
    → EachStandsOnce (circle_in l (run limit (started plans) events))

-- Who is not in the circle of a lane still rests: its moment has not come, in every run.
abbrev pub OthersRest : Type 0
OthersRest =
    (plans : List Plan) (limit l : ℕ) (events : List Event) → 0 < length plans
    → let w = run limit (started plans) events in
    AllByRecursion (λ p. w.now < p.from) (rest_at w.now (lane_at w.state l).resting)

-- A lane has as many seats as planned, and who joins it rests for the pause that is planned and no longer, in every run.
abbrev pub LanesAsPlanned : Type 0
LanesAsPlanned =
    (plans : List Plan) (limit l : ℕ) (events : List Event) → 0 < length plans
    → let w = run limit (started plans) events in
    let q = lane_at w.state l in
    let plan = lane_at (started plans).state l in
    (q.seats ≡ plan.seats) × (moment q w.now ≡ w.now + plan.pause)

-- Each place in a lane is that of a host of its owner, in every run.
abbrev pub PlacesAreOwn : Type 0
PlacesAreOwn =
    (plans : List Plan) (limit l : ℕ) (events : List Event) → 0 < length plans
    → let w = run limit (started plans) events in
    AllByRecursion (λ p. (host_at w.state p.host).owner ≡ p.owner) (places_of (lane_at w.state l))
