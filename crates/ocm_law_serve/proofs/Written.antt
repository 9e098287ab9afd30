-- Pages that were written when their calls were on the disk.
use Rattle.std.proofs.Common.{◌≡◌, ◌∙◌, ℕ, ◌<◌, Bool, List, [], ◌∷◌, ◌++◌, length, Option, Some, None, Result, Ok, Err, refl, sym, ap, subst, arith}
use Rattle.ocm_dav.specs.declared.configs.Config.{Config}
use Rattle.ocm_dav_pages.specs.declared.shapes.Page.{Page}
use Rattle.ocm_disk.specs.declared.disk.Disk.{Ghosts}
use Rattle.ocm_entry.specs.declared.entries.Entry.{Entry}
use Rattle.ocm_law_serve.specs.OnDisk.{AnswersAreOnDisk, EachPage, IsNewest, IsOnDisk, OnDisk}
use Rattle.ocm_serve_store.specs.Runs.{KeepsSince}
use Rattle.ocm_serve_store.specs.declared.followed.Origin.{Origin}
use Rattle.ocm_server.specs.Objects.{Knows, Past, mine_of}
use Rattle.ocm_server.specs.Visits.{Behind, Desk, Visit, Visits}
use Rattle.ocm_server_connections.specs.Noting.{EachAt, NotedBy, NotedLast}
use Rattle.ocm_server_connections.specs.Sides.{Noted, Sides, newest_of}
use Rattle.ocm_server_connections.specs.Talk.{Shown, Talk}
use Rattle.ocm_server_connections.specs.Talk.Talk.{silent, last, next}
use Rattle.ocm_server_connections.specs.declared.endings.Ended.{Ended}
use Rattle.ocm_server_connections.specs.declared.endings.Missed.{Missed}
use Rattle.ocm_server_rounds.specs.Rounds.{Hold, hold}
use Rattle.ocm_server_rounds.specs.declared.pumped.Pumped.{Pumped}
use Rattle.ocm_store.specs.Courses.{IsMomentBehind}
use Rattle.ocm_store.specs.declared.terms.Terms.{Terms}
use Rattle.ocm_turn.specs.Calls.{InOrder, IsOlderPart, StandIn, entries}
use Rattle.ocm_turn.specs.Moves.{Moved, SeesNewest}
use Rattle.ocm_turn.specs.Passes.{Known}
use Rattle.ocm_turn.specs.declared.view.Call.{Call}
use Rattle.ocm_turn.proofs.CallLemmas.{inside, older_through}

-- where a call stands, something was seen
something-seen : (seen : List Entry) (own older : List Call) (e : Entry) (calls : List Entry) → entries own ≡ e ∷ calls → StandIn seen (own ++ older) → 0 < length seen
something-seen seen [] older e calls is stand = absurd cc
something-seen seen (c ∷ own) older e calls is stand = let n = inside seen c.place c.entry stand.0 in omega (arith, n)

-- the newest of a pass's calls is the newest that it has seen
is-newest : (old : List Entry) (own : List Call) (new : List Entry) → SeesNewest old own new → IsNewest own new
is-newest old [] new sees = tt
is-newest old (c ∷ own) new (before, is, place, part) = (before, is, place)

-- ---- what is known of each page of a talk, in other words

noted-then : (K K2 : List ℕ → Type 0) → ((moments : List ℕ) → K moments → K2 moments) → (written : List ℕ) (answer : Result Page Missed) (noted : List Noted) → NotedLast K written answer noted → NotedLast K2 written answer noted
noted-then K K2 then written (Ok page) noted (moments, is, here) = (moments, is, then moments here)
noted-then K K2 then written (Err missed) noted none = none

each-then : {config : Config} {shown : Shown} {number place : ℕ} {bytes : List ℕ} {ended : Bool} {drawn : List (List ℕ)} {clocks : List ℕ} {calls : List Entry} {written : List ℕ} {ending : Ended}
    (K K2 : List Entry → List ℕ → Type 0) → ((so_far : List Entry) (moments : List ℕ) → K so_far moments → K2 so_far moments)
    → (before : List Entry) (talk : Talk config shown number place bytes ended drawn clocks calls written ending) (noted : List Noted) → EachAt K before talk noted → EachAt K2 before talk noted
each-then K K2 then before (silent number place bytes ended written ending stops) noted none = none
each-then K K2 then before (last number place bytes rest ended message fresh clock calls answer written ending is answers ends spent) noted here =
    noted-then (K (calls ++ before)) (K2 (calls ++ before)) (then (calls ++ before)) written answer noted here
each-then K K2 then before (next number place bytes front rest ended message fresh clock calls page drawn clocks later written ending is split answers goes_on more) noted (moments, others, all, here, behind) =
    (moments, others, all, then (calls ++ before) moments here, each-then K K2 then (calls ++ before) more others behind)

-- ---- a pass knows an older part of the past, and its calls are an older part of the worker's

module _ {T : Type 0} (past : Past) (mine : List Call) where
  abbrev Follows : Option (Known T) → Type 0
  Follows pass = Knows pass past × IsOlderPart (mine_of pass) mine

  moved-follows : (old new : Known T) (calls : List Entry) → Moved old new calls → Follows (Some new) → Follows (Some old)
  moved-follows old new calls moved (knows, part) = (
    record {
      history = older_through old.seen new.seen past.history moved.seen knows.history;
      moments = older_through old.moments new.moments past.moments moved.moments knows.moments;
    },
    older_through old.mine new.mine mine (moved.mine.0, moved.mine.1) part,
  )

  behind-follows : (limit : ℕ) (delivers : Bool) (pumped : Option Pumped) (old new : Hold T) → Behind limit delivers pumped old new → Follows (Some new.pass) → Follows (Some old.pass)
  behind-follows limit delivers (Some pumped) old new behind follows = moved-follows old.pass new.pass behind.1.0 behind.1.2.moved follows
  behind-follows limit delivers None old new behind follows = subst (λ (h : Hold T). Follows (Some h.pass)) behind.1 follows

-- ---- each page

module _ {D T : Type 0} (disk : Ghosts D) (terms : Terms) (k : List Entry) (past : Past) (after : D) (mine : List Call) (keeps : KeepsSince disk terms k past.history past.moments after) where
  kept-on-disk : (first final : Known T) → Follows past mine (Some final) → (calls : List Entry) (moments : List ℕ) → NotedBy first final calls moments → IsOnDisk disk terms k past after mine first.mine calls moments
  kept-on-disk first final follows [] moments kept = tt
  kept-on-disk first final follows (e ∷ calls) moments kept = by_moments kept.pass.moments refl
    where
      own : List Call
      own = kept.made.mine.0

      stand : StandIn kept.pass.seen (own ++ first.mine)
      stand = subst (λ (m : List Call). StandIn kept.pass.seen m) kept.made.mine.1 kept.sound.stand

      here : Follows past mine (Some kept.pass)
      here = moved-follows past mine kept.pass final kept.later kept.makes follows

      by_moments : (known : List ℕ) → kept.pass.moments ≡ known → OnDisk disk terms k past after mine first.mine (e ∷ calls) moments
      by_moments [] is =
          let many = something-seen kept.pass.seen own first.mine e calls kept.made.mine.2 stand in
          let few : 0 ≡ length kept.pass.seen = sym (ap length is) ∙ kept.sound.paired in
          absurd (omega (arith, many, few))
      by_moments (at ∷ earlier) is =
          let behind : IsMomentBehind kept.pass.seen past.moments at =
          (here.0.moments.0, earlier, here.0.moments.1 ∙ ap (λ (m : List ℕ). here.0.moments.0 ++ m) is, sym (ap length is) ∙ kept.sound.paired) in
          record {
            at = at;
            noted_is = kept.noted_is ∙ ap newest_of is;
            done = kept.pass.seen;
            later = here.0.history.0;
            split = here.0.history.1;
            behind = behind;
            newer = here.1.0;
            own = own;
            part = here.1.1 ∙ ap (λ (m : List Call). here.1.0 ++ m) kept.made.mine.1;
            own_are = kept.made.mine.2;
            newest = is-newest first.seen own kept.pass.seen kept.made.newest;
            stand = stand;
            order = subst (λ (m : List Call). InOrder m) kept.made.mine.1 kept.sound.order;
            since = keeps kept.pass.seen here.0.history.0 at here.0.history.1 behind;
          }

  pages-on-disk : {C : Type 0} (sides : C → Sides) (config : Config) (limit : ℕ) (delivers : Bool) (visits : List (Visit C)) (old new : Desk T) (all : Visits sides config limit delivers visits old new)
      → Follows past mine (Some new.pass) → EachPage sides config limit delivers (IsOnDisk disk terms k past after mine) visits old new all
  pages-on-disk sides config limit delivers [] old new all follows = tt
  pages-on-disk sides config limit delivers (v ∷ before) old new (middle, earlier, visited) follows =
      let served = visited.middle in
      let behind = behind-follows past mine limit delivers v.pumped (hold served.pass served.exchanges) (hold new.pass new.exchanges) visited.behind follows in
      let ahead = moved-follows past mine middle.pass served.pass visited.talked.deeds.calls visited.talked.does.calls behind in (
        each-then (NotedBy middle.pass served.pass) (IsOnDisk disk terms k past after mine middle.pass.mine) (kept-on-disk middle.pass served.pass behind) [] visited.talked.talk visited.talked.deeds.noted visited.talked.at,
        pages-on-disk sides config limit delivers before old middle earlier ahead,
      )

pub answers-are-on-disk : {D C : Type 0} (disk : Ghosts D) (sides : C → Sides) → AnswersAreOnDisk disk sides
answers-are-on-disk {D} disk sides = λ terms k past after keeps config gate first draw old new calls shift.
    let follows = subst (λ (p : Option (Known (Origin D disk))). Follows past calls p) shift.worked.has (shift.knows, ([], shift.calls_are)) in
    pages-on-disk disk terms k past after calls keeps sides config gate.limit old.delivers shift.worked.serves.visits _ _ shift.worked.serves.served follows
