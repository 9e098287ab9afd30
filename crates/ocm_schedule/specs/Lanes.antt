-- A lane: its seats, and the hosts that wait for one. They rest first, and then the owners take turns.
use Rattle.std.specs.Prelude.{ℕ, ◌+◌, ◌-◌, ◌≤◌, max, Bool, false, ◌&&◌, ◌||◌, nat_le, nat_lt, if◌then◌else◌, List, [], ◌∷◌, ◌++◌, Option, Some, None}
use Rattle.std.specs.List.{AllByRecursion}
use Rattle.ocm_schedule.specs.declared.places.Place.{Place}
use Rattle.ocm_schedule.specs.Circles as circle
use Rattle.ocm_schedule.specs.Circles.{Line, behind, joined_first, stands, first_in, turned, places_in}

-- what a lane is: the places that rest, the first one first; the circle of those that have rested; the moment of the last that joined; how many
-- exchanges are under way, of at most so many; and how long a host rests that joins
pub record Queue : Type 0 where
  pub resting : List Place
  pub circle : List Line
  pub latest : ℕ
  pub busy : ℕ
  pub seats : ℕ
  pub pause : ℕ

-- each moment is no later than those behind it
abbrev pub InOrder : List Place → Type 0
InOrder [] = Unit {0}
InOrder (p ∷ ps) = AllByRecursion (λ q. p.from ≤ q.from) ps × InOrder ps

-- what holds of every lane
pub record IsLane (q : Queue) : Type 0 where
  pub fits : q.busy ≤ q.seats
  pub order : InOrder q.resting
  pub past : AllByRecursion (λ p. p.from ≤ q.latest) q.resting

-- from when on a host that joins may go: once it rested, and never before one that joined earlier
abbrev pub moment : Queue → ℕ → ℕ
moment q now = max (now + q.pause) q.latest

-- a host joins, and rests
abbrev pub joined : Queue → ℕ → ℕ → ℕ → Queue
joined q owner host now =
    record {
      resting = q.resting ++ record { from = moment q now; owner = owner; host = host } ∷ [];
      circle = q.circle;
      latest = moment q now;
      busy = q.busy;
      seats = q.seats;
      pause = q.pause;
    }

-- whether the first of these has rested
abbrev pub has_rested : ℕ → List Place → Bool
has_rested now [] = false
has_rested now (p ∷ ps) = nat_le p.from now

-- those of these that still rest
abbrev pub rest_at : ℕ → List Place → List Place
rest_at now [] = []
rest_at now (p ∷ ps) = if nat_le p.from now then rest_at now ps else p ∷ ps

-- a circle that those of these join that have rested
abbrev pub with_rested : ℕ → List Place → List Line → List Line
with_rested now [] ls = ls
with_rested now (p ∷ ps) ls = if nat_le p.from now then with_rested now ps (circle.joined ls p) else ls

-- the first that rests joins the circle
abbrev pub first_roused : Queue → Queue
first_roused q =
    record {
      resting = behind q.resting;
      circle = joined_first q.circle q.resting;
      latest = q.latest;
      busy = q.busy;
      seats = q.seats;
      pause = q.pause;
    }

-- the circle of a lane at a moment
abbrev pub circle_at : ℕ → Queue → List Line
circle_at now q = with_rested now q.resting q.circle

-- those that have rested join the circle
abbrev pub roused : ℕ → Queue → Queue
roused now q =
    record { resting = rest_at now q.resting; circle = circle_at now q; latest = q.latest; busy = q.busy; seats = q.seats; pause = q.pause }

-- whether a host waits for a seat that has rested
abbrev pub is_awaited : ℕ → Queue → Bool
is_awaited now q = stands q.circle || has_rested now q.resting

-- whether an exchange may begin
abbrev pub may_begin : ℕ → Queue → Bool
may_begin now q = nat_lt q.busy q.seats && is_awaited now q

-- all places of a lane
abbrev pub places_of : Queue → List Place
places_of q = q.resting ++ places_in q.circle

-- the place whose turn it is at a moment, and its host
abbrev pub first_place : ℕ → Queue → Option Place
first_place now q = first_in (circle_at now q)

abbrev pub host_of : Option Place → Option ℕ
host_of None = None
host_of (Some p) = Some p.host

abbrev pub first_host : ℕ → Queue → Option ℕ
first_host now q = host_of (first_place now q)

-- it takes a seat
abbrev pub begun : ℕ → Queue → Queue
begun now q =
    record { resting = rest_at now q.resting; circle = turned (circle_at now q); latest = q.latest; busy = q.busy + 1; seats = q.seats; pause = q.pause }

-- a seat is given back
abbrev pub ended : Queue → Queue
ended q = record { resting = q.resting; circle = q.circle; latest = q.latest; busy = q.busy - 1; seats = q.seats; pause = q.pause }

-- the moment of the first of these
abbrev pub first_moment : List Place → Option ℕ
first_moment [] = None
first_moment (p ∷ ps) = Some p.from

-- from when on an exchange may begin, if none ends before
abbrev pub wakes_at : Queue → Option ℕ
wakes_at q = if nat_lt q.busy q.seats then (if stands q.circle then Some 0 else first_moment q.resting) else None
