-- What is promised of a server that ran by a plan, by all that is told of its run. Histories stand newest first.
use Rattle.std.specs.Prelude.{◌≡◌, ◌⊎◌, ◌<◌, ℕ, Bool, List, [], ◌∷◌, ◌++◌, length, Option, Some, None}
use Rattle.rand_chacha.specs.ChaCha.{ChaCha}
use Rattle.ocm_dav.specs.declared.configs.Config.{Config}
use Rattle.ocm_disk.specs.Disk.{LeavesOnly, Only}
use Rattle.ocm_disk.specs.declared.disk.Disk.{Ghosts}
use Rattle.ocm_entry.specs.declared.entries.Entry.{Entry}
use Rattle.ocm_journal.specs.Openings.{StaysAsItOpens}
use Rattle.ocm_law_openings.specs.Keeping.{Keeps}
use Rattle.ocm_law_serve.specs.OnDisk.{AnswersOnDisk}
use Rattle.ocm_law_serve.specs.Runs.{WasRun}
use Rattle.ocm_pump.specs.declared.exchanges.Exchange.{Exchange}
use Rattle.ocm_serve_options.specs.declared.plans.Plan.{Plan}
use Rattle.ocm_serve_store.specs.Runs.{HasServed, RunsTo}
use Rattle.ocm_serve_store.specs.declared.followed.Origin.{Origin}
use Rattle.ocm_server.specs.Doors.{Doorway}
use Rattle.ocm_server.specs.Objects.{EachShift, Past, Shift}
use Rattle.ocm_server.specs.Visits.{Behind, Desk, Visit, Visits, Work, ends, left, visited}
use Rattle.ocm_server.specs.declared.served.Served.{Served}
use Rattle.ocm_server_connections.specs.Sides.{Sides}
use Rattle.ocm_server_rounds.specs.Rounds.{Hold}
use Rattle.ocm_server_rounds.specs.declared.pumped.Pumped.{Pumped}
use Rattle.ocm_store.specs.Courses.{LeavesAlong}
use Rattle.ocm_store.specs.Opening.{OpensTo}
use Rattle.ocm_store.specs.Stores.{terms_of}
use Rattle.ocm_store.specs.declared.terms.Terms.{Terms}
use Rattle.ocm_turn.specs.Passes.{Gate, Known}
use Rattle.ocm_turn.specs.declared.view.Call.{Call}

-- what came of a run by a plan, its workers told as contracts see them, each of which draws by the stream of its place under this key
abbrev pub Came : {D C : Type 0} (disk : Ghosts D) → (C → Sides) → Plan → ℕ → ℕ → List ℕ → D → List (Work C (Origin D disk)) → Served → Type 0
Came disk sides plan area limit key before workers came =
    RunsTo disk plan area limit (λ old new config gate first past all. EachShift sides config key old new (λ w. w) gate first past all) (λ w. w.end) before workers came

-- the exchanges of the round of delivery behind a connection, where one was made
abbrev pub exchanges_behind : {T : Type 0} (limit : ℕ) (delivers : Bool) (pumped : Option Pumped) (old new : Hold T) → Behind limit delivers pumped old new → List Exchange
exchanges_behind limit delivers (Some pumped) old new behind = behind.1.1
exchanges_behind limit delivers None old new behind = []

-- the exchanges of all rounds behind these visits, the newest first
abbrev pub exchanges_of : {C T : Type 0} (sides : C → Sides) (config : Config) (limit : ℕ) (delivers : Bool) (visits : List (Visit C)) (old new : Desk T) → Visits sides config limit delivers visits old new → List Exchange
exchanges_of sides config limit delivers [] old new same = []
exchanges_of sides config limit delivers (v ∷ before) old new (middle, earlier, here) =
    exchanges_behind limit delivers v.pumped _ _ here.behind ++ exchanges_of sides config limit delivers before old middle earlier

-- What the door and the post of a worker tell at the end of its shift, where they tell. The door gave, and took back with its ending, each
-- connection of the shift's visits and no other. The exchanges of the post are those of the rounds behind these and no other.
pub record VisitsAreTold {C T : Type 0} {sides : C → Sides} {config : Config} {gate : Gate} {first : Known T} {draw : ChaCha} {old new : Work C T} {calls : List Call} {past : Past} (shift : Shift sides config gate first draw old new calls past) : Type 0 where
  pub connections : (door : Doorway C) → old.told ≡ Some door → new.told ≡ Some (left (ends new.end) (visited shift.worked.serves.visits door))
  pub exchanges : (made : List Exchange) → old.exchanges ≡ Some made → new.exchanges ≡ Some (exchanges_of sides config gate.limit old.delivers shift.worked.serves.visits _ _ shift.worked.serves.served ++ made)

-- A crash at any moment leaves these bytes, or what opens as they do, or what may follow at some place of the calls after the list that they
-- opened to.
abbrev pub LeavesOf : List ℕ → ℕ → List ℕ → Terms → List Entry → List Entry → List ℕ → Type 0
LeavesOf host area bytes terms base history c = StaysAsItOpens host area bytes c ⊎ LeavesAlong terms base [] history c

-- Where workers served, their calls are those of a session, whose history is legal and outlives every crash; and each page that answers calls was
-- noted with a moment since which a crash leaves these. Where a worker's door and post tell, as the program's do, these pages are those of all
-- connections that the door gave, and the exchanges of the rounds all that the post tells.
abbrev pub ServedRunsKeep : {D C : Type 0} → Ghosts D → (C → Sides) → Type 0
ServedRunsKeep {D} {C} disk sides =
    (plan : Plan) (area limit : ℕ) (key : List ℕ) (before : D) (workers : List (Work C (Origin D disk))) (came : Served) (runs : Came disk sides plan area limit key before workers came)
    (calls own : ℕ) (has : HasServed came calls own) → (let ran = runs.ran calls own has in let s = ran.served in
    (was : WasRun disk plan.host area before runs.after s.first.base s.service.history)
    × Keeps plan.host (record { area = was.size; base = s.first.base; calls = s.service.history; flight = None }) []
    × (disk.tells → (i : ℕ) (d : _) (below : i < length workers) → AnswersOnDisk disk (terms_of ran.store) s.first.base (record { history = s.service.history; moments = s.service.moments }) runs.after (s.service.each.1 i d below))
    × ((i : ℕ) (d : _) (below : i < length workers) → VisitsAreTold (s.service.each.1 i d below))
    -- where the disk held these bytes alone when it was opened and was read faithfully, they opened to the list behind which the calls stand
    × ((bytes : List ℕ) → disk.seen before ≡ bytes → Only (disk.seen before) (disk.may_leave before) → disk.tells → disk.faithful was.loaded
    → OpensTo plan.host area s.first.base bytes
    × LeavesOnly disk.moment disk.left_since before runs.after (LeavesOf plan.host area bytes (record { host = plan.host; area = was.size }) s.first.base s.service.history)))
