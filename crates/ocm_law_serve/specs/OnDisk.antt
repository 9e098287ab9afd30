-- Answers that are on the disk by the time at which they are written. Histories stand newest first.
use Rattle.std.specs.Prelude.{◌≡◌, ℕ, Bool, List, [], ◌∷◌, ◌++◌, length, ⊤}
use Rattle.rand_chacha.specs.ChaCha.{ChaCha}
use Rattle.ocm_dav.specs.declared.configs.Config.{Config}
use Rattle.ocm_disk.specs.declared.disk.Disk.{Ghosts}
use Rattle.ocm_entry.specs.declared.entries.Entry.{Entry}
use Rattle.ocm_serve_store.specs.Runs.{KeepsSince}
use Rattle.ocm_serve_store.specs.declared.followed.Origin.{Origin}
use Rattle.ocm_server.specs.Objects.{Past, Shift}
use Rattle.ocm_server.specs.Visits.{Desk, Visit, Visits, Work}
use Rattle.ocm_server_connections.specs.Noting.{EachAt}
use Rattle.ocm_server_connections.specs.Sides.{Sides}
use Rattle.ocm_store.specs.Courses.{IsMomentBehind, LeavesAlong, LeavesSince}
use Rattle.ocm_store.specs.declared.terms.Terms.{Terms}
use Rattle.ocm_turn.specs.Calls.{InOrder, StandIn, entries}
use Rattle.ocm_turn.specs.Passes.{Gate, Known}
use Rattle.ocm_turn.specs.declared.view.Call.{Call}

-- the newest of these calls of a worker is the newest of all that were done, at its place
abbrev pub IsNewest : List Call → List Entry → Type 0
IsNewest [] done = ⊤
IsNewest (newest ∷ own) done = (before : List Entry) × (done ≡ newest.entry ∷ before) × (newest.place ≡ length before)

-- With a page one moment of the disk was noted: that behind the newest of the calls `done`, with which the one history begins.
-- That is the newest of the calls that the page's connection had made by then, which are these. They stand in `done` in their
-- order, behind all that the worker had called before the connection, which is `older`. By the end of the run that moment has
-- been, and since then a crash leaves what may follow `done`, or a later call, of the disk that came back.
pub record OnDisk {D : Type 0} (disk : Ghosts D) (terms : Terms) (k : List Entry) (past : Past) (after : D) (mine older : List Call) (calls : List Entry) (moments : List ℕ) : Type 0 where
  pub at : ℕ
  pub noted_is : moments ≡ at ∷ []
  pub done : List Entry
  pub later : List Entry
  pub split : past.history ≡ later ++ done
  pub behind : IsMomentBehind done past.moments at
  -- the worker's calls behind these, and these
  pub newer : List Call
  pub own : List Call
  pub part : mine ≡ newer ++ (own ++ older)
  pub own_are : entries own ≡ calls
  pub newest : IsNewest own done
  pub stand : StandIn done (own ++ older)
  pub order : InOrder (own ++ older)
  pub since : LeavesSince disk after at (LeavesAlong terms k done later)

-- where there are calls
abbrev pub IsOnDisk : {D : Type 0} (disk : Ghosts D) → Terms → List Entry → Past → D → List Call → List Call → List Entry → List ℕ → Type 0
IsOnDisk disk terms k past after mine older [] moments = ⊤
IsOnDisk disk terms k past after mine older (e ∷ calls) moments = OnDisk disk terms k past after mine older (e ∷ calls) moments

-- This is known of each page of these visits, by the calls that the worker had made before its connection, by those of the
-- connection up to the page, and by the moments that were noted with it.
abbrev pub EachPage : {C T : Type 0} (sides : C → Sides) (config : Config) (limit : ℕ) (delivers : Bool) → (List Call → List Entry → List ℕ → Type 0)
    → (visits : List (Visit C)) (old new : Desk T) → Visits sides config limit delivers visits old new → Type 0
EachPage sides config limit delivers K [] old new visits = ⊤
EachPage sides config limit delivers K (v ∷ before) old new (middle, earlier, visited) =
    EachAt (K middle.pass.mine) [] visited.talked.talk visited.talked.deeds.noted × EachPage sides config limit delivers K before old middle earlier

-- Each page of a worker that answers calls was noted with a moment by which these calls were on the disk, from which no crash takes them since. It is
-- said of the connections that the worker's door tells, where they note moments.
abbrev pub AnswersOnDisk : {D C T : Type 0} (disk : Ghosts D) (terms : Terms) (k : List Entry) (past : Past) (after : D) {sides : C → Sides} {config : Config} {gate : Gate} {first : Known T} {draw : ChaCha}
    {old new : Work C T} {calls : List Call} → Shift sides config gate first draw old new calls past → Type 0
AnswersOnDisk disk terms k past after {sides} {config} {gate} {first} {draw} {old} {new} {calls} shift =
    EachPage sides config gate.limit old.delivers (IsOnDisk disk terms k past after calls) shift.worked.serves.visits _ _ shift.worked.serves.served

-- So it is where since the moment behind each call a crash leaves what may follow that call, or a later one.
abbrev pub AnswersAreOnDisk : {D C : Type 0} → Ghosts D → (C → Sides) → Type 0
AnswersAreOnDisk {D} {C} disk sides = (terms : Terms) (k : List Entry) (past : Past) (after : D) → KeepsSince disk terms k past.history past.moments after
    → (config : Config) (gate : Gate) (first : Known (Origin D disk)) (draw : ChaCha) (old new : Work C (Origin D disk)) (calls : List Call) (shift : Shift sides config gate first draw old new calls past)
    → AnswersOnDisk disk terms k past after shift
