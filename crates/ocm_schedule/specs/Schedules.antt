-- A schedule: its lanes, and what is known of each host.
use Rattle.std.specs.Prelude.{◌≡◌, ℕ, ◌+◌, ◌-◌, ◌<◌, ◌≤◌, min, max, Bool, true, false, if◌then◌else◌, ◌&&◌, ◌==◌, not, List, [], ◌∷◌, ◌++◌, length, slice_index_or, slice_set, count_by, Option, Some, None, IfSome}
use Rattle.ocm_schedule.specs.declared.places.Place.{Place}
use Rattle.ocm_schedule.specs.declared.schedules.Ending.{Ending}
use Rattle.ocm_schedule.specs.declared.schedules.Ending.TheVariants.{Soon, Late, Failed}
use Rattle.ocm_schedule.specs.declared.schedules.Plan.{Plan}
use Rattle.ocm_schedule.specs.Lanes.{Queue, IsLane, joined, begun, ended, may_begin, first_host, wakes_at, places_of}

-- what is known of a host: whose it is, the lane that it belongs to, whether an exchange with it is under way, and its jobs, the oldest first
pub record Peer : Type 0 where
  pub owner : ℕ
  pub lane : ℕ
  pub busy : Bool
  pub jobs : List ℕ

pub record State : Type 0 where
  pub lanes : List Queue
  pub hosts : List Peer

abbrev pub no_lane : Queue
no_lane = record { resting = []; circle = []; latest = 0; busy = 0; seats = 0; pause = 0 }

abbrev pub nobody : Peer
nobody = record { owner = 0; lane = 0; busy = false; jobs = [] }

abbrev pub lane_at : State → ℕ → Queue
lane_at s l = slice_index_or s.lanes l no_lane

abbrev pub host_at : State → ℕ → Peer
host_at s h = slice_index_or s.hosts h nobody

abbrev pub is_none : List ℕ → Bool
is_none [] = true
is_none (j ∷ js) = false

abbrev pub first_job : List ℕ → Option ℕ
first_job [] = None
first_job (j ∷ js) = Some j

-- whether a host waits in a lane: it has jobs, and no exchange with it is under way
abbrev pub waits_in : ℕ → Peer → Bool
waits_in l p = p.lane == l && (not p.busy && not (is_none p.jobs))

-- whether a host has a seat of a lane
abbrev pub is_busy_in : ℕ → Peer → Bool
is_busy_in l p = p.lane == l && p.busy

abbrev pub is_place_of : ℕ → Place → Bool
is_place_of h p = p.host == h

abbrev pub one_if : Bool → ℕ
one_if b = if b then 1 else 0

-- What holds of every schedule.
pub record IsSchedule (s : State) : Type 0 where
  pub some : 0 < length s.lanes
  pub lane : (l : ℕ) → IsLane (lane_at s l)
  pub inside : (h : ℕ) → (host_at s h).lane < length s.lanes
  -- a host with a seat has it for its first job
  pub held : (h : ℕ) → (host_at s h).busy ≡ true → is_none (host_at s h).jobs ≡ false
  -- each host that waits stands in its lane, once, and no other does
  pub waits : (l h : ℕ) → count_by (is_place_of h) (places_of (lane_at s l)) ≡ one_if (waits_in l (host_at s h))
  -- each seat that is taken is that of a host
  pub busy : (l : ℕ) → (lane_at s l).busy ≡ count_by (is_busy_in l) s.hosts

-- ---- a host

-- with one more job
abbrev pub with_job : Peer → ℕ → Peer
with_job p job = record { owner = p.owner; lane = p.lane; busy = p.busy; jobs = p.jobs ++ job ∷ [] }

abbrev pub with_seat : Peer → Peer
with_seat p = record { owner = p.owner; lane = p.lane; busy = true; jobs = p.jobs }

-- the jobs that are left after an exchange, where the first stays at the end, or is done
abbrev pub left_jobs : Bool → List ℕ → List ℕ
left_jobs true [] = []
left_jobs true (j ∷ js) = js ++ j ∷ []
left_jobs false [] = []
left_jobs false (j ∷ js) = js

abbrev pub without_seat : Peer → ℕ → Bool → Peer
without_seat p lane stays = record { owner = p.owner; lane = lane; busy = false; jobs = left_jobs stays p.jobs }

abbrev pub is_idle : Peer → Bool
is_idle p = not p.busy && is_none p.jobs

-- ---- the schedule

-- a host joins a lane, if it is to
abbrev pub join_if : Bool → List Queue → ℕ → ℕ → ℕ → ℕ → List Queue
join_if true lanes l owner host now = slice_set lanes l (joined (slice_index_or lanes l no_lane) owner host now)
join_if false lanes l owner host now = lanes

-- a seat of a lane is given back
abbrev pub end_at : List Queue → ℕ → List Queue
end_at lanes l = slice_set lanes l (ended (slice_index_or lanes l no_lane))

-- a job is handed to a host; it joins its lane if it was idle
abbrev pub handed : State → ℕ → ℕ → ℕ → State
handed s host job now =
    let p = host_at s host in
    record { lanes = join_if (is_idle p) s.lanes p.lane p.owner host now; hosts = slice_set s.hosts host (with_job p job) }

-- the host of a lane whose turn it is takes a seat
abbrev pub seated : State → ℕ → ℕ → ℕ → State
seated s l now host =
    record { lanes = slice_set s.lanes l (begun now (lane_at s l)); hosts = slice_set s.hosts host (with_seat (host_at s host)) }

-- The lane of a host after an exchange: the first for one that answered soon, the second for one that answered late. The third is that
-- of hosts that were never asked, and one that failed goes one further than before, up to the last.
abbrev pub next_lane : Ending → ℕ → ℕ → ℕ
next_lane Soon lane lanes = 0
next_lane Late lane lanes = min (lanes - 1) 1
next_lane Failed lane lanes = min (max lane 2 + 1) (lanes - 1)

-- the lane of a host that was never asked: the third, or the last where there are fewer
abbrev pub first_lane : ℕ → ℕ
first_lane lanes = min (lanes - 1) 2

abbrev pub given : Peer → ℕ → ℕ → Peer
given p owner lane = record { owner = owner; lane = lane; busy = p.busy; jobs = p.jobs }

abbrev pub given_if : Bool → List Peer → ℕ → ℕ → ℕ → List Peer
given_if true hosts host owner lane = slice_set hosts host (given (slice_index_or hosts host nobody) owner lane)
given_if false hosts host owner lane = hosts

-- a host that is idle is given to an owner and a lane
abbrev pub assigned : State → ℕ → ℕ → ℕ → State
assigned s host owner lane = record { lanes = s.lanes; hosts = given_if (is_idle (host_at s host)) s.hosts host owner lane }

-- an idle host counts as one that failed once more
abbrev pub blamed : State → ℕ → State
blamed s host = assigned s host (host_at s host).owner (next_lane Failed (host_at s host).lane (length s.lanes))

-- the number of an idle host becomes that of another, of this owner, which was never asked
abbrev pub renewed : State → ℕ → ℕ → State
renewed s host owner = assigned s host owner (first_lane (length s.lanes))

-- an exchange with a host ended
abbrev pub settled : State → ℕ → Ending → Bool → ℕ → State
settled s host how stays now =
    let p = host_at s host in
    let lane = next_lane how p.lane (length s.lanes) in
    let q = without_seat p lane stays in
    record {
      lanes = end_at (join_if (not (is_none q.jobs)) s.lanes lane p.owner host now) p.lane;
      hosts = slice_set s.hosts host q;
    }

-- An exchange began: in a lane where one might, the host whose turn it is had its first job begun.
pub record Begins (now : ℕ) (old new : State) (host job : ℕ) : Type 0 where
  pub lane : ℕ
  pub may : may_begin now (lane_at old lane) ≡ true
  pub first : first_host now (lane_at old lane) ≡ Some host
  pub next : first_job (host_at old host).jobs ≡ Some job
  pub new_state : new ≡ seated old lane now host

-- no exchange may begin in any lane
abbrev pub NoneMayBegin : ℕ → State → Type 0
NoneMayBegin now s = (l : ℕ) → may_begin now (lane_at s l) ≡ false

-- a lane as it is planned
abbrev pub planned : Plan → Queue
planned p = record { resting = []; circle = []; latest = 0; busy = 0; seats = p.seats; pause = p.pause }

-- a host without a job
abbrev pub unasked : ℕ → ℕ → Peer
unasked owner lane = record { owner = owner; lane = lane; busy = false; jobs = [] }

-- a host is added, which was never asked
abbrev pub added : State → ℕ → State
added s owner = record { lanes = s.lanes; hosts = s.hosts ++ unasked owner (first_lane (length s.lanes)) ∷ [] }

-- the sooner of two moments, where there is one
abbrev pub sooner : Option ℕ → Option ℕ → Option ℕ
sooner (Some a) (Some b) = Some (min a b)
sooner (Some a) None = Some a
sooner None b = b

-- the soonest moment at which one of so many lanes wakes
abbrev pub IsSoonest : List Queue → ℕ → Option ℕ → Type 0
IsSoonest lanes n None = (k : ℕ) → k < n → wakes_at (slice_index_or lanes k no_lane) ≡ None
IsSoonest lanes n (Some t) =
    ((k : ℕ) × (k < n) × (wakes_at (slice_index_or lanes k no_lane) ≡ Some t))
    × ((k : ℕ) → k < n → IfSome (wakes_at (slice_index_or lanes k no_lane)) (λ u. t ≤ u))
