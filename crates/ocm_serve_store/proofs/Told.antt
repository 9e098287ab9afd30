-- A store that was served, and what is told of a disk that was loaded.
use Rattle.std.proofs.Common.{◌≡◌, ◌⊎◌, ◌∙◌, ⊎_elim, inl, inr, ℕ, List, [], ◌++◌, Result, sym, ap, subst}
use Rattle.ocm_disk.specs.Disk.{LeavesOnly}
use Rattle.ocm_disk.specs.declared.disk.Disk.{Ghosts}
use Rattle.ocm_entry.specs.declared.entries.Entry.{Entry}
use Rattle.ocm_journal.specs.Openings.{StaysAsItOpens}
use Rattle.ocm_journal.proofs.Moving.{joined, weaker}
use Rattle.ocm_server.specs.Objects.{Begins, Past, Service}
use Rattle.ocm_server.specs.declared.served.Served.{Served}
use Rattle.ocm_server.specs.declared.served.Served.TheVariants.{Ended, DoorFault, DiskFault, NotJournal, OtherHost, NoMemory}
use Rattle.ocm_serve_store.specs.Following.{CameSince, IsLegalSince, StandsSince, origin_of, store_of}
use Rattle.ocm_serve_store.specs.Runs.{HasServed, IsCounted, IsDiskFault, IsLoaded, IsOpenedTo, IsSaid, WasServed, KeepsDone, KeepsSince, LeavesInRun, as_served}
use Rattle.ocm_serve_store.specs.declared.followed.Followed.{Followed}
use Rattle.ocm_serve_store.specs.declared.followed.Origin.{Origin}
use Rattle.ocm_store.specs.Courses.{Course, CourseAt, LeavesAlong, LeavesSince}
use Rattle.ocm_store.specs.Opening as stores
use Rattle.ocm_store.specs.Opening.{IsNoDiskFault}
use Rattle.ocm_store.specs.Stores.{IsLegalUnder, Stands, disk_of, terms_of}
use Rattle.ocm_store.specs.declared.load_faults.LoadFault.{LoadFault}
use Rattle.ocm_store.specs.declared.load_faults.LoadFault.TheVariants as loads
use Rattle.ocm_store.specs.declared.stores.Store.{Store}
use Rattle.ocm_store.specs.declared.terms.Terms.{Terms}
use Rattle.ocm_store.proofs.Runs.{courses-keep, courses-leave}
use Rattle.ocm_store.proofs.Ties.{courses-tie}
use Rattle.ocm_turn.specs.Passes.{Gate, Known}
use Rattle.ocm_turn.specs.declared.view.Call.{Call}

-- a store that was followed from its load and served, by what is told of it as an object
pub served : {D : Type 0} (disk : Ghosts D) (limit : ℕ) (IsBase : List Entry → Type 0) (store : Store D disk) (begun left : Followed D disk) (after : D) (c o calls own : ℕ)
    (IsEach : Gate → Known (Origin D disk) → Past → List (List Call) → Type 0) (gate : Gate) (first : Known (Origin D disk))
    → (store_of begun) ≡ store → begun.born.value ≡ store
    → (c ≡ calls) × (o ≡ own) → Begins limit (origin_of begun) gate first → IsBase first.base × StandsSince disk begun first.base [] × IsLegalSince disk first.terms first.base []
    → Service (λ (f : Followed D disk). origin_of f) (StandsSince disk) (CameSince disk) (IsLegalSince disk) gate first left calls own (IsEach gate first) → after ≡ disk_of (store_of left)
    → WasServed disk limit IsBase store after c o IsEach
served {D} disk limit IsBase store begun left after c o calls own IsEach gate first is born same begins base service back = record {
  gate = gate;
  first = first;
  begun = begun;
  left = left;
  begins = begins;
  is_base = base.0;
  stands = subst (λ (s : Store D disk). Stands disk s first.base []) is base.1.0;
  lawful = subst (λ (t : Terms). IsLegalUnder t first.base []) (ap (λ (t : Origin D disk). t.terms) begins.terms_are ∙ ap (λ (s : Store D disk). terms_of s) is) base.2;
  service = told;
  course = subst (λ (s : Store D disk). Course disk s told.history (store_of left)) birth told.stands_for.1;
  course_at = subst (λ (s : Store D disk). CourseAt disk s told.history told.moments (store_of left)) birth told.came_by;
  back = back;
}
  where
    told : Service (λ (f : Followed D disk). origin_of f) (StandsSince disk) (CameSince disk) (IsLegalSince disk) gate first left c o (IsEach gate first)
    told = subst (λ (n : ℕ). Service (λ (f : Followed D disk). origin_of f) (StandsSince disk) (CameSince disk) (IsLegalSince disk) gate first left n o (IsEach gate first)) (sym same.0)
        (subst (λ (n : ℕ). Service (λ (f : Followed D disk). origin_of f) (StandsSince disk) (CameSince disk) (IsLegalSince disk) gate first left calls n (IsEach gate first)) (sym same.1) service)

    birth : left.born.value ≡ store
    birth = ap (λ (t : Origin D disk). t.born.value) (told.same_terms ∙ begins.terms_are) ∙ born

-- what a crash leaves at any moment of a run, by what it leaves of a load
pub run-leaves : {D : Type 0} (disk : Ghosts D) (only_now : (d : D) (c : List ℕ) → disk.left_since d (disk.moment d) c → disk.may_leave d c) (host : List ℕ) (area limit : ℕ) (IsBase : List Entry → Type 0)
    (store : Store D disk) (before after : D) (c o : ℕ) (IsEach : Gate → Known (Origin D disk) → Past → List (List Call) → Type 0) (s : WasServed disk limit IsBase store after c o IsEach) → disk.tells
    → LeavesOnly disk.moment disk.left_since before (disk_of store) (λ x. disk.may_leave before x ⊎ StaysAsItOpens host area (disk.seen before) x)
    → LeavesOnly disk.moment disk.left_since before after (LeavesInRun disk host area before (terms_of store) s.first.base s.service.history)
run-leaves {D} disk only_now host area limit IsBase store before after c o IsEach s tells loaded =
    let whole : List ℕ → Type 0 = LeavesInRun disk host area before (terms_of store) s.first.base s.service.history in
    let load = weaker disk.moment disk.left_since before (disk_of store) (λ x. disk.may_leave before x ⊎ StaysAsItOpens host area (disk.seen before) x) whole loaded
    (λ x left. ⊎_elim (λ had. inl had) (λ stays. inr (inl stays)) left) in
    let calls = weaker disk.moment disk.left_since (disk_of store) (disk_of (store_of s.left)) (LeavesAlong (terms_of store) s.first.base [] s.service.history) whole
    (courses-leave disk only_now tells store (store_of s.left) s.first.base [] s.service.history (record { stands = s.stands; legal = s.lawful }) s.course) (λ x left. inr (inr left)) in
    subst (λ (d : D). LeavesOnly disk.moment disk.left_since before d whole) (sym s.back) (joined disk.moment disk.left_since before (disk_of store) (disk_of (store_of s.left)) whole load calls)

-- and what was answered is kept
pub run-keeps : {D : Type 0} (disk : Ghosts D) (only_now : (d : D) (c : List ℕ) → disk.left_since d (disk.moment d) c → disk.may_leave d c) (limit : ℕ) (IsBase : List Entry → Type 0)
    (store : Store D disk) (after : D) (c o : ℕ) (IsEach : Gate → Known (Origin D disk) → Past → List (List Call) → Type 0) (s : WasServed disk limit IsBase store after c o IsEach)
    (done later : List Entry) → s.service.history ≡ later ++ done → KeepsDone disk store s.first.base done later (store_of s.left)
run-keeps disk only_now limit IsBase store after c o IsEach s done later is =
    courses-keep disk only_now store (store_of s.left) s.first.base done later (record { stands = s.stands; legal = s.lawful }) (subst (λ (h : List Entry). Course disk store h (store_of s.left)) is s.course)

-- since the moment behind each call
pub run-since : {D : Type 0} (disk : Ghosts D) (only_now : (d : D) (c : List ℕ) → disk.left_since d (disk.moment d) c → disk.may_leave d c) (limit : ℕ) (IsBase : List Entry → Type 0)
    (store : Store D disk) (after : D) (c o : ℕ) (IsEach : Gate → Known (Origin D disk) → Past → List (List Call) → Type 0) (s : WasServed disk limit IsBase store after c o IsEach)
    → disk.tells → KeepsSince disk (terms_of store) s.first.base s.service.history s.service.moments after
run-since {D} disk only_now limit IsBase store after c o IsEach s tells = λ done later at is behind.
    subst (λ (d : D). LeavesSince disk d at (LeavesAlong (terms_of store) s.first.base done later)) (sym s.back)
    (courses-tie disk only_now tells store (store_of s.left) s.first.base done later s.service.moments at (record { stands = s.stands; legal = s.lawful })
    (subst (λ (h : List Entry). CourseAt disk store h s.service.moments (store_of s.left)) is s.course_at) behind)

-- where the disk was loaded nothing is told of it
pub loaded-said : (says : Result (List Entry) LoadFault) (r : Served) → IsLoaded r → IsSaid says r
loaded-said says (Ended calls own) is = tt
loaded-said says (DoorFault calls own) is = tt
loaded-said says (DiskFault count) is = absurd is
loaded-said says (NotJournal place) is = absurd is
loaded-said says (OtherHost found) is = absurd is
loaded-said says NoMemory is = tt

pub loaded-counted : (before now : ℕ) (r : Served) → IsLoaded r → IsCounted before now r
loaded-counted before now (Ended calls own) is = tt
loaded-counted before now (DoorFault calls own) is = tt
loaded-counted before now (DiskFault count) is = absurd is
loaded-counted before now (NotJournal place) is = absurd is
loaded-counted before now (OtherHost found) is = absurd is
loaded-counted before now NoMemory is = tt

pub loaded-sound : (r : Served) → IsLoaded r → IsDiskFault r → ⊥
loaded-sound (Ended calls own) is fault = fault
loaded-sound (DoorFault calls own) is fault = fault
loaded-sound (DiskFault count) is fault = is
loaded-sound (NotJournal place) is fault = is
loaded-sound (OtherHost found) is fault = is
loaded-sound NoMemory is fault = fault

-- a fault that is none of the disk is told as none
pub sound-told : (fault : LoadFault) → IsNoDiskFault fault → IsDiskFault (as_served fault) → ⊥
sound-told (loads.NotJournal place) none is = is
sound-told (loads.OtherHost found) none is = is
sound-told (loads.DiskFault count) none is = none
sound-told loads.NoMemory none is = is

-- what the bytes say of a disk that is not loaded is told so
pub refused-said : (says : Result (List Entry) LoadFault) (fault : LoadFault) → stores.IsSaidBy says fault → IsSaid says (as_served fault)
refused-said says (loads.NotJournal place) is = is
refused-said says (loads.OtherHost found) is = is
refused-said says (loads.DiskFault count) is = tt
refused-said says loads.NoMemory is = tt

-- and so is a count of faults
pub refused-counted : (before now : ℕ) (fault : LoadFault) → stores.IsCounted before now fault → IsCounted before now (as_served fault)
refused-counted before now (loads.NotJournal place) is = tt
refused-counted before now (loads.OtherHost found) is = tt
refused-counted before now (loads.DiskFault count) is = is
refused-counted before now loads.NoMemory is = tt

-- a disk that was not loaded was not served
pub unserved : (fault : LoadFault) (c o : ℕ) → HasServed (as_served fault) c o → ⊥
unserved (loads.NotJournal place) c o has = has
unserved (loads.OtherHost found) c o has = has
unserved (loads.DiskFault count) c o has = has
unserved loads.NoMemory c o has = has

-- the same host and the same disk open to the same list
pub opened_same : {D : Type 0} (disk : Ghosts D) (area : ℕ) (host host2 : List ℕ) (before before2 loaded : D) (k : List Entry) → host ≡ host2 → before ≡ before2 → IsOpenedTo disk host area before loaded k → IsOpenedTo disk host2 area before2 loaded k
opened_same {D} disk area host host2 before before2 loaded k same same2 opens =
    subst (λ (d : D). IsOpenedTo disk host2 area d loaded k) same2 (subst (λ (h : List ℕ). IsOpenedTo disk h area before loaded k) same opens)

-- what is known of a base by other words
pub based : {D : Type 0} (disk : Ghosts D) (limit : ℕ) (IsBase IsBase2 : List Entry → Type 0) (store : Store D disk) (after : D) (c o : ℕ) (IsEach : Gate → Known (Origin D disk) → Past → List (List Call) → Type 0)
    → ((k : List Entry) → IsBase k → IsBase2 k) → WasServed disk limit IsBase store after c o IsEach → WasServed disk limit IsBase2 store after c o IsEach
based disk limit IsBase IsBase2 store after c o IsEach then s = record {
  gate = s.gate;
  first = s.first;
  begun = s.begun;
  left = s.left;
  begins = s.begins;
  is_base = then s.first.base s.is_base;
  stands = s.stands;
  lawful = s.lawful;
  service = s.service;
  course = s.course;
  course_at = s.course_at;
  back = s.back;
}
