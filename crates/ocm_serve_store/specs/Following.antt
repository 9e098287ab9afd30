-- A store that remembers what it was when it was loaded.
use Rattle.std.specs.Prelude.{◌≡◌, ◌≢◌, ◌++◌, ℕ, List, Option, Some, None, true}
use Rattle.ocm_disk.specs.declared.disk.Disk.{Ghosts}
use Rattle.ocm_entry.specs.declared.asks.Ask.{Ask}
use Rattle.ocm_entry.specs.declared.entries.Entry.{Entry}
use Rattle.ocm_law_sessions.specs.Sessions.{would_change}
use Rattle.ocm_serve_store.specs.declared.followed.Followed.{Followed}
use Rattle.ocm_serve_store.specs.declared.followed.Origin.{Origin}
use Rattle.ocm_serve_store.specs.declared.followed.StoreOrFront.{StoreOrFront}
use Rattle.ocm_serve_store.specs.declared.followed.StoreOrFront.TheVariants as parts
use Rattle.ocm_store.specs.Acts.{StandsLegally}
use Rattle.ocm_store.specs.Courses.{Course, CourseAt}
use Rattle.ocm_store.specs.Parting.{mark_of_front}
use Rattle.ocm_store.specs.Stores.{IsLegalUnder, Stands, host_of, terms_of}
use Rattle.ocm_store.specs.declared.apart.Mark.{Mark}
use Rattle.ocm_store.specs.declared.stores.Store.{Store}

-- the store, and while its journal is away what it was before the change that is being written
abbrev pub store_in : {D : Type 0} {disk : Ghosts D} → StoreOrFront D disk → Store D disk
store_in (parts.Store store) = store
store_in (parts.Front front) = (mark_of_front front).before.value

-- the mark of the change that is being written, if any
abbrev pub mark_in : {D : Type 0} {disk : Ghosts D} → StoreOrFront D disk → Option (Mark D disk)
mark_in (parts.Store store) = None
mark_in (parts.Front front) = Some (mark_of_front front)

-- the store that is followed
abbrev pub store_of : {D : Type 0} {disk : Ghosts D} → Followed D disk → Store D disk
store_of followed = store_in followed.held

-- what never changes of it
abbrev pub origin_of : {D : Type 0} {disk : Ghosts D} → Followed D disk → Origin D disk
origin_of followed = record { terms = terms_of (store_of followed); born = followed.born }

-- an ask comes back: nothing happened, a change is being written, and this one would change something too
abbrev pub HasToWait : {D : Type 0} (disk : Ghosts D) → Followed D disk → Followed D disk → Ask → Ask → Type 0
HasToWait disk old new ask again =
    (again ≡ ask) × (new ≡ old) × (mark_in old.held ≢ None)
    × ((k h : List Entry) → StandsLegally disk (store_of old) k h → would_change (host_of (store_of old)) (h ++ k) ask ≡ true)

-- it stands for these calls after the list that was opened, and came to by them
abbrev pub StandsSince : {D : Type 0} (disk : Ghosts D) → Followed D disk → List Entry → List Entry → Type 0
StandsSince disk followed k h = Stands disk (store_of followed) k h × Course disk followed.born.value h (store_of followed)

-- it came to what it is by these calls, and its disk was at these moments behind them
abbrev pub CameSince : {D : Type 0} (disk : Ghosts D) → Followed D disk → List Entry → List Entry → List ℕ → Type 0
CameSince disk followed k h moments = CourseAt disk followed.born.value h moments (store_of followed)

-- the calls h are legal after the list k that was opened
abbrev pub IsLegalSince : {D : Type 0} (disk : Ghosts D) → Origin D disk → List Entry → List Entry → Type 0
IsLegalSince disk origin k h = IsLegalUnder origin.terms k h
