-- A server, from its disk as it was handed in to its disk as it comes back.
use Rattle.std.specs.Prelude.{◌≡◌, ◌⊎◌, ℕ, ◌<◌, List, [], ◌++◌, length, slice_index_or, Result, Ok, Err}
use Rattle.ocm_base.specs.Outside.{raised}
use Rattle.ocm_dav.specs.declared.configs.Config.{Config}
use Rattle.ocm_disk.specs.Disk.{LeavesOnly}
use Rattle.ocm_disk.specs.declared.disk.Disk.{Ghosts}
use Rattle.ocm_entry.specs.declared.entries.Entry.{Entry}
use Rattle.ocm_journal.specs.Openings.{StaysAsItOpens}
use Rattle.ocm_serve_options.specs.declared.plans.Plan.{Plan}
use Rattle.ocm_serve_store.specs.Following.{CameSince, IsLegalSince, StandsSince, origin_of, store_of}
use Rattle.ocm_serve_store.specs.declared.followed.Followed.{Followed}
use Rattle.ocm_serve_store.specs.declared.followed.Origin.{Origin}
use Rattle.ocm_server.specs.Objects.{Begins, Past, Service}
use Rattle.ocm_server.specs.declared.served.Served.{Served}
use Rattle.ocm_server.specs.declared.workers.Rounds.{Rounds}
use Rattle.ocm_server.specs.declared.workers.Rounds.TheVariants as rounds
use Rattle.ocm_server.specs.declared.served.Served.TheVariants.{Ended, DoorFault, DiskFault, NotJournal, OtherHost, NoMemory}
use Rattle.ocm_store.specs.Acts.{StandsLegally}
use Rattle.ocm_store.specs.Courses.{Course, CourseAt, IsMomentBehind, LeavesAlong, LeavesSince}
use Rattle.ocm_store.specs.Opening.{IsOfArea, OpensTo, loading}
use Rattle.ocm_store.specs.Stores.{IsLegalUnder, Stands, area_of, disk_of, host_of, terms_of}
use Rattle.ocm_store.specs.declared.load_faults.LoadFault.{LoadFault}
use Rattle.ocm_store.specs.declared.load_faults.LoadFault.TheVariants as loads
use Rattle.ocm_store.specs.declared.stores.Store.{Store}
use Rattle.ocm_store.specs.declared.terms.Terms.{Terms}
use Rattle.ocm_turn.specs.Passes.{Gate, Known}
use Rattle.ocm_turn.specs.declared.view.Call.{Call}

-- what a server knows of itself by its plan
abbrev pub config_of : Plan → Config
config_of plan = record { host = plan.host; admin = plan.admin }

-- why a disk was not loaded, as it is told
abbrev pub as_served : LoadFault → Served
as_served (loads.NotJournal place) = NotJournal place
as_served (loads.OtherHost found) = OtherHost found
as_served (loads.DiskFault count) = DiskFault count
as_served loads.NoMemory = NoMemory

-- the workers served, by so many calls, of which so many are their own
abbrev pub HasServed : Served → ℕ → ℕ → Type 0
HasServed (Ended calls own) c o = (calls ≡ c) × (own ≡ o)
HasServed (DoorFault calls own) c o = (calls ≡ c) × (own ≡ o)
HasServed _ c o = ⊥

-- no worker began
abbrev pub IsUnserved : Served → Type 0
IsUnserved (Ended calls own) = ⊥
IsUnserved (DoorFault calls own) = ⊥
IsUnserved _ = Unit {0}

-- it is not the disk that was not loaded
abbrev pub IsLoaded : Served → Type 0
IsLoaded (DiskFault count) = ⊥
IsLoaded (NotJournal place) = ⊥
IsLoaded (OtherHost found) = ⊥
IsLoaded _ = Unit {0}

-- the disk is told to have failed
abbrev pub IsDiskFault : Served → Type 0
IsDiskFault (DiskFault count) = Unit {0}
IsDiskFault _ = ⊥

-- what is told of the format is what the disk's bytes say
abbrev pub IsSaid : Result (List Entry) LoadFault → Served → Type 0
IsSaid says (NotJournal place) = says ≡ Err (loads.NotJournal place)
IsSaid says (OtherHost found) = says ≡ Err (loads.OtherHost found)
IsSaid says _ = Unit {0}

-- a fault of the disk is told with its count of faults, which rose
abbrev pub IsCounted : ℕ → ℕ → Served → Type 0
IsCounted before now (DiskFault count) = (count ≡ now) × (now ≡ raised before)
IsCounted before now _ = Unit {0}

-- a disk opens to this list, where it tells its bytes and has read them faithfully once it is loaded; a new journal would have areas of this size
abbrev pub IsOpenedTo : {D : Type 0} → Ghosts D → List ℕ → ℕ → D → D → List Entry → Type 0
IsOpenedTo disk host area before loaded k = disk.tells → disk.faithful loaded → (loading host area (disk.seen before) ≡ Ok k) × OpensTo host area k (disk.seen before)

-- What a crash leaves at some moment of a run that loaded a store from a disk and made the calls h after the list k: what it might have left
-- before, the same bytes or, where the disk was blank, what opens to no records, or what may follow at some place of the calls.
abbrev pub LeavesInRun : {D : Type 0} (disk : Ghosts D) → List ℕ → ℕ → D → Terms → List Entry → List Entry → List ℕ → Type 0
LeavesInRun disk host area before terms k h c = disk.may_leave before c ⊎ StaysAsItOpens host area (disk.seen before) c ⊎ LeavesAlong terms k [] h c

-- Between two calls of a run there is a store that has made those before: since the moment of its disk a crash leaves what may follow at some
-- place behind them, so that none of them is lost.
abbrev pub KeepsDone : {D : Type 0} (disk : Ghosts D) → Store D disk → List Entry → List Entry → List Entry → Store D disk → Type 0
KeepsDone {D} disk store k done later left = (mid : Store D disk) × Course disk store done mid × Course disk mid later left × StandsLegally disk mid k done
    × (disk.tells → LeavesOnly disk.moment disk.left_since (disk_of mid) (disk_of left) (LeavesAlong (terms_of store) k done later))

-- Since the moment of the disk behind a call of a run a crash leaves what may follow this call, or a later one. By the end of the run, when the disk
-- is this one, that moment has been.
abbrev pub KeepsSince : {D : Type 0} (disk : Ghosts D) → Terms → List Entry → List Entry → List ℕ → D → Type 0
KeepsSince disk terms k h moments after = (done later : List Entry) (at : ℕ) → h ≡ later ++ done → IsMomentBehind done moments at → LeavesSince disk after at (LeavesAlong terms k done later)

-- A store was served by so many calls, of which so many are those of its workers, and its disk came back. It stood for a base at first, of
-- which something is known, and at the end for that base and one history in which the calls of all workers stand, and came to it by these
-- calls; what is known of each worker is told apart.
pub record WasServed {D : Type 0} (disk : Ghosts D) (limit : ℕ) (IsBase : List Entry → Type 0) (store : Store D disk) (after : D) (calls own : ℕ) (IsEach : Gate → Known (Origin D disk) → Past → List (List Call) → Type 0) : Type 0 where
  pub gate : Gate
  pub first : Known (Origin D disk)
  pub begun : Followed D disk
  pub left : Followed D disk
  pub begins : Begins limit (origin_of begun) gate first
  pub is_base : IsBase first.base
  pub stands : Stands disk store first.base []
  pub lawful : IsLegalUnder (terms_of store) first.base []
  pub service : Service (λ (f : Followed D disk). origin_of f) (StandsSince disk) (CameSince disk) (IsLegalSince disk) gate first left calls own (IsEach gate first)
  pub course : Course disk store service.history (store_of left)
  -- the same, with the moments that stand in what is known of each worker
  pub course_at : CourseAt disk store service.history service.moments (store_of left)
  pub back : after ≡ disk_of (store_of left)

-- a server ran by a plan: it knew of itself what the plan says, and the store of its host was loaded from a disk, and served behind what
-- the disk opens to, by the calls of its workers alone
pub record Ran {D : Type 0} (disk : Ghosts D) (plan : Plan) (area limit : ℕ) (before after : D) (calls own : ℕ) (IsEach : Config → Gate → Known (Origin D disk) → Past → List (List Call) → Type 0) : Type 0 where
  pub config : Config
  pub config_is : config ≡ config_of plan
  pub store : Store D disk
  pub host_is : host_of store ≡ plan.host
  pub area_is : disk.tells → disk.faithful (disk_of store) → IsOfArea plan.host area (area_of store) (disk.seen before)
  pub served : WasServed disk limit (IsOpenedTo disk plan.host area before (disk_of store)) store after calls own (IsEach config)
  pub all_own : own ≡ calls
  -- a crash at any moment of the run
  pub any_moment : disk.tells → disk.faithful (disk_of store) → LeavesOnly disk.moment disk.left_since before after (LeavesInRun disk plan.host area before (terms_of store) served.first.base served.service.history)
  -- what was answered is not lost
  pub kept : (done later : List Entry) → served.service.history ≡ later ++ done → KeepsDone disk store served.first.base done later (store_of served.left)
  -- since the moment of the disk behind a call a crash leaves what may follow it, or a later call
  pub since : disk.tells → KeepsSince disk (terms_of store) served.first.base served.service.history served.service.moments after

-- What came of running a server by a plan, from its disk and its workers as they were: the disk and the workers that were left, and what is
-- known of them. `new` is the size of the areas of a new journal.
pub record RunsTo {D W : Type 0} (disk : Ghosts D) (plan : Plan) (new limit : ℕ) (IsEach : List W → List W → Config → Gate → Known (Origin D disk) → Past → List (List Call) → Type 0) (end : W → Rounds) (before : D) (workers : List W) (came : Served) : Type 0 where
  pub after : D
  pub left : List W
  pub ran : (calls own : ℕ) → HasServed came calls own → Ran disk plan new limit before after calls own (IsEach workers left)
  -- it ended where every door came to its end, and else the door of a worker failed
  pub ended : (calls own : ℕ) → came ≡ Ended calls own → (i : ℕ) (d : W) → i < length left → end (slice_index_or left i d) ≡ rounds.Ended
  pub fault : (calls own : ℕ) → came ≡ DoorFault calls own → (i : ℕ) × (i < length left) × ((d : W) → end (slice_index_or left i d) ≡ rounds.DoorFault)
  -- what is told of the disk is what its bytes say, or the count of its faults, which rose; then no door was asked
  pub said : disk.tells → disk.faithful after → IsSaid (loading plan.host new (disk.seen before)) came
  pub counted : IsCounted (disk.count before) (disk.count after) came
  pub unfailing : ((n : ℕ) → disk.passes before n) → IsDiskFault came → ⊥
  pub unasked : IsUnserved came → left ≡ workers
  pub unserved : disk.tells → disk.faithful after → IsUnserved came → LeavesOnly disk.moment disk.left_since before after (λ c. disk.may_leave before c ⊎ StaysAsItOpens plan.host new (disk.seen before) c)
  pub kept : disk.tells → disk.faithful after → IsUnserved came → StaysAsItOpens plan.host new (disk.seen before) (disk.seen after)
