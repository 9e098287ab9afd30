-- What a store comes to by several calls, one after another, and what a crash leaves at any moment of them.
use Rattle.std.specs.Prelude.{◌≡◌, ◌⊎◌, ℕ, ◌≤◌, List, [], ◌∷◌, ◌++◌, length, false, Option, Some, None}
use Rattle.ocm_disk.specs.Disk.{LeavesOnly}
use Rattle.ocm_disk.specs.declared.disk.Disk.{Ghosts}
use Rattle.ocm_entry.specs.declared.asks.Ask.{Ask}
use Rattle.ocm_entry.specs.declared.entries.Entry.{Entry}
use Rattle.ocm_entry.specs.declared.rows.Share.{Share}
use Rattle.ocm_rules.specs.History.{IsLegal, kept}
use Rattle.ocm_rules.specs.Numbers.{at_number}
use Rattle.ocm_rules.specs.Shares.{is_live, made}
use Rattle.ocm_store.specs.declared.stores.Store.{Store}
use Rattle.ocm_store.specs.declared.terms.Terms.{Terms}
use Rattle.ocm_store.specs.Acts.{Acts, StandsLegally}
use Rattle.ocm_store.specs.Opening.{IsImageIn}
use Rattle.ocm_store.specs.Stores.{LeavesNext, disk_of, terms_of}

-- A store came to be another by these calls, the newest first: each did what a call does that answers this ask with this reply.
abbrev pub Course : {D : Type 0} (disk : Ghosts D) → Store D disk → List Entry → Store D disk → Type 0
Course disk old [] new = new ≡ old
Course {D} disk old (e ∷ before) new = (mid : Store D disk) × Course disk old before mid × Acts disk mid new e.ask e.reply

-- ... and behind each of them its disk was at this moment: as many as calls, that of the newest first.
abbrev pub CourseAt : {D : Type 0} (disk : Ghosts D) → Store D disk → List Entry → List ℕ → Store D disk → Type 0
CourseAt disk old [] [] new = new ≡ old
CourseAt {D} disk old (e ∷ before) (t ∷ earlier) new = (mid : Store D disk) × CourseAt disk old before earlier mid × Acts disk mid new e.ask e.reply × (disk.moment (disk_of new) ≡ t)
CourseAt disk old _ _ new = ⊥

-- Of the moments behind all calls, the newest first, this one is that behind the newest of `done`, which are the oldest of these calls.
abbrev pub IsMomentBehind : List Entry → List ℕ → ℕ → Type 0
IsMomentBehind done moments at = (newer earlier : List ℕ) × (moments ≡ newer ++ (at ∷ earlier)) × (length (at ∷ earlier) ≡ length done)

-- by now this moment has been, and a crash since then leaves a disk that has P
abbrev pub LeavesSince : {D : Type 0} → Ghosts D → D → ℕ → (List ℕ → Type 0) → Type 0
LeavesSince disk now at P = (at ≤ disk.moment now) × ((c : List ℕ) → disk.left_since now at c → P c)

-- What a crash leaves at some moment of the calls `later`, the newest first, which were made after `done`: what may follow `done`, or what
-- may follow all that came before one of them, which was in flight.
abbrev pub LeavesAlong : Terms → List Entry → List Entry → List Entry → List ℕ → Type 0
LeavesAlong terms k done [] c = LeavesNext terms k done None c
LeavesAlong terms k done (e ∷ before) c = LeavesNext terms k (before ++ done) (Some e.ask) c ⊎ LeavesAlong terms k done before c

-- the ask of the oldest of these calls, where there are some
abbrev pub next_ask : List Entry → Option Ask
next_ask [] = None
next_ask (e ∷ []) = Some e.ask
next_ask (e ∷ f ∷ before) = next_ask (f ∷ before)

-- ... which is at a place: it may follow `done` and those of the calls `later` that came before the place, while the next one was in flight,
-- where there is a next one
abbrev pub LeavesAtPlace : Terms → List Entry → List Entry → List Entry → List ℕ → Type 0
LeavesAtPlace terms k done later c = (newer : List Entry) × (before : List Entry) × (later ≡ newer ++ before) × LeavesNext terms k (before ++ done) (next_ask newer) c

-- ---- laws

-- what a crash leaves at some moment of calls it leaves at a place of them
abbrev pub MomentsHavePlaces : Type 0
MomentsHavePlaces = (terms : Terms) (k done later : List Entry) (c : List ℕ) → LeavesAlong terms k done later c → LeavesAtPlace terms k done later c

-- a share that had ended before some calls is not live in what a disk opens to after a crash at any moment of them
abbrev pub EndedStaysEnded : Type 0
EndedStaysEnded = (terms : Terms) (k done later : List Entry) (c : List ℕ) (i : ℕ) (m : Share) → IsLegal terms.host (later ++ (done ++ k))
    → at_number (made terms.host (kept terms.host (done ++ k))) i ≡ Some m → is_live terms.host (kept terms.host (done ++ k)) i ≡ false
    → LeavesAlong terms k done later c → (next : List Entry) × IsImageIn terms.host terms.area next c × (is_live terms.host (kept terms.host next) i ≡ false)

-- what calls make of a store stands for all of them, which are legal, under the same terms
abbrev pub CoursesStand : {D : Type 0} → Ghosts D → Type 0
CoursesStand {D} disk = (old new : Store D disk) (k done later : List Entry) → StandsLegally disk old k done → Course disk old later new
    → (terms_of new ≡ terms_of old) × StandsLegally disk new k (later ++ done)

-- a crash at any moment of a course leaves what may follow at some place of it
abbrev pub CoursesLeave : {D : Type 0} → Ghosts D → Type 0
CoursesLeave {D} disk = disk.tells → (old new : Store D disk) (k done later : List Entry) → StandsLegally disk old k done → Course disk old later new
    → LeavesOnly disk.moment disk.left_since (disk_of old) (disk_of new) (LeavesAlong (terms_of old) k done later)

-- between any two calls of a course there is a store of which nothing that was answered before is lost: since the moment of its disk a crash
-- leaves what may follow at some place behind it
abbrev pub CoursesKeep : {D : Type 0} → Ghosts D → Type 0
CoursesKeep {D} disk = (old new : Store D disk) (k done later : List Entry) → StandsLegally disk old k [] → Course disk old (later ++ done) new
    → (mid : Store D disk) × Course disk old done mid × Course disk mid later new × StandsLegally disk mid k done
    × (disk.tells → LeavesOnly disk.moment disk.left_since (disk_of mid) (disk_of new) (LeavesAlong (terms_of old) k done later))

-- a course with moments is a course, and has as many moments as calls
abbrev pub CoursesWithMoments : {D : Type 0} → Ghosts D → Type 0
CoursesWithMoments {D} disk = (old new : Store D disk) (h : List Entry) (moments : List ℕ) → CourseAt disk old h moments new → Course disk old h new × (length moments ≡ length h)

-- of the store that a course ends with, whatever came later: since the moment behind a call a crash leaves what may follow at some place behind
-- this call
abbrev pub CoursesTie : {D : Type 0} → Ghosts D → Type 0
CoursesTie {D} disk = disk.tells → (old new : Store D disk) (k done later : List Entry) (moments : List ℕ) (at : ℕ) → StandsLegally disk old k [] → CourseAt disk old (later ++ done) moments new
    → IsMomentBehind done moments at → LeavesSince disk (disk_of new) at (LeavesAlong (terms_of old) k done later)
