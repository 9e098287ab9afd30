-- The jobs of a host as time goes on.
use Rattle.std.specs.Prelude.{◌≡◌, ℕ, ◌<◌, ◌==◌, ◌&&◌, false, nat_lt, if◌then◌else◌, List, [], ◌∷◌, ◌++◌, length, option_to_list, Option, Some, None}
use Rattle.ocm_schedule.specs.declared.schedules.Plan.{Plan}
use Rattle.ocm_schedule.specs.Schedules.{Peer, State, host_at, first_job, left_jobs}
use Rattle.ocm_schedule.specs.Runs.{World, Event, Adds, Due, Asks, Ended, Blames, Renews, Passes, who, happens, run, started}

-- the jobs that wait: all but the one of the exchange that is under way
abbrev pub waiting_jobs : Peer → List ℕ
waiting_jobs p = if p.busy then left_jobs false p.jobs else p.jobs

-- the job of the host that begins, if it is this one
abbrev pub job_of : State → ℕ → Option ℕ → List ℕ
job_of s h None = []
job_of s h (Some g) = if g == h then option_to_list (first_job (host_at s g).jobs) else []

-- the jobs of a host that begin as something happens
abbrev pub begin_as : World → ℕ → Event → List ℕ
begin_as w h (Asks l) = job_of w.state h (who w.now w.state l)
begin_as w h (Adds owner) = []
begin_as w h (Due g job) = []
begin_as w h (Ended g how stays) = []
begin_as w h (Blames g) = []
begin_as w h (Renews g owner) = []
begin_as w h (Passes time) = []

-- the jobs that come to a host as something happens: one that is handed to it, and one that stays with it
abbrev pub come_as : World → ℕ → Event → List ℕ
come_as w h (Due g job) = if nat_lt g (length w.state.hosts) && (g == h) then job ∷ [] else []
come_as w h (Ended g how stays) = if (host_at w.state g).busy && ((g == h) && stays) then option_to_list (first_job (host_at w.state g).jobs) else []
come_as w h (Adds owner) = []
come_as w h (Asks l) = []
come_as w h (Blames g) = []
come_as w h (Renews g owner) = []
come_as w h (Passes time) = []

abbrev pub begin_in : ℕ → World → ℕ → List Event → List ℕ
begin_in limit w h [] = []
begin_in limit w h (e ∷ es) = begin_as w h e ++ begin_in limit (happens limit w e) h es

abbrev pub come_in : ℕ → World → ℕ → List Event → List ℕ
come_in limit w h [] = []
come_in limit w h (e ∷ es) = come_as w h e ++ come_in limit (happens limit w e) h es

-- Jobs begin in the order in which they came, and none is lost or made: those of a host that waited, and then those that came to
-- it since, are those that began since, and then those that wait now.
abbrev pub JobsInOrder : Type 0
JobsInOrder =
    (plans : List Plan) (limit h : ℕ) (before after : List Event) → 0 < length plans
    → let w = run limit (started plans) before in
    let v = run limit w after in
    waiting_jobs (host_at w.state h) ++ come_in limit w h after ≡ begin_in limit w h after ++ waiting_jobs (host_at v.state h)
