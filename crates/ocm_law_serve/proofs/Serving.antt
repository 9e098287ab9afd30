-- A server that ran by a plan keeps what is promised.
use Rattle.std.proofs.Common.{◌≡◌, ◌∙◌, ℕ, Bool, List, [], ◌∷◌, ◌++◌, Option, Some, None, ap, subst, sym}
use Rattle.std.specs.Prelude.{option_map}
use Rattle.std.proofs.lemmas.List.{append_assoc}
use mathlib.Core.Logic.{inl, inr}
use Rattle.rand_chacha.specs.ChaCha.{ChaCha}
use Rattle.ocm_dav.specs.declared.configs.Config.{Config}
use Rattle.ocm_disk.specs.Disk.{LeavesOnly, Only}
use Rattle.ocm_disk.specs.declared.disk.Disk.{Ghosts}
use Rattle.ocm_entry.specs.declared.entries.Entry.{Entry}
use Rattle.ocm_journal.proofs.Moving.{weaker}
use Rattle.ocm_journal.specs.Openings.{StaysAsItOpens}
use Rattle.ocm_law_openings.proofs.Promises.{keeps}
use Rattle.ocm_law_serve.proofs.InARow.{ran-was}
use Rattle.ocm_law_serve.proofs.Written.{answers-are-on-disk}
use Rattle.ocm_law_serve.specs.Runs.{WasRun}
use Rattle.ocm_law_serve.specs.Served.{VisitsAreTold, LeavesOf, ServedRunsKeep, exchanges_behind, exchanges_of}
use Rattle.ocm_pump.specs.declared.exchanges.Exchange.{Exchange}
use Rattle.ocm_server.specs.Objects.{Past, Shift}
use Rattle.ocm_server.specs.Visits.{Behind, Desk, Visit, Visits, Work, ends, left, visited}
use Rattle.ocm_server_connections.specs.Sides.{Sides}
use Rattle.ocm_server_rounds.specs.Rounds.{Hold, hold}
use Rattle.ocm_server_rounds.specs.declared.pumped.Pumped.{Pumped}
use Rattle.ocm_serve_store.specs.Runs.{LeavesInRun}
use Rattle.ocm_store.specs.Opening.{OpensTo}
use Rattle.ocm_store.specs.Stores.{terms_of}
use Rattle.ocm_store.specs.declared.terms.Terms.{Terms}
use Rattle.ocm_turn.specs.Passes.{Gate, Known}
use Rattle.ocm_turn.specs.declared.view.Call.{Call}

-- what a crash leaves in a run, of a disk that held these bytes alone before
leaves-of : {D : Type 0} (disk : Ghosts D) (host : List ℕ) (area : ℕ) (before : D) (bytes : List ℕ) (terms : Terms) (base history : List Entry) → disk.seen before ≡ bytes → Only (disk.seen before) (disk.may_leave before)
    → (c : List ℕ) → LeavesInRun disk host area before terms base history c → LeavesOf host area bytes terms base history c
leaves-of disk host area before bytes terms base history held only c (inl had) = inl (inl (only c had ∙ held))
leaves-of disk host area before bytes terms base history held only c (inr (inl stays)) = inl (subst (λ (seen : List ℕ). StaysAsItOpens host area seen c) held stays)
leaves-of disk host area before bytes terms base history held only c (inr (inr along)) = inr along

-- where the disk held these bytes alone and was read faithfully
held-alone : {D : Type 0} (disk : Ghosts D) (host : List ℕ) (area : ℕ) (before after : D) (base history : List Entry) (was : WasRun disk host area before after base history) (bytes : List ℕ)
    → disk.seen before ≡ bytes → Only (disk.seen before) (disk.may_leave before) → disk.tells → disk.faithful was.loaded
    → OpensTo host area base bytes × LeavesOnly disk.moment disk.left_since before after (LeavesOf host area bytes (record { host = host; area = was.size }) base history)
held-alone disk host area before after base history was bytes held only tells faithful =
    let terms : Terms = record { host = host; area = was.size } in (
      subst (λ (seen : List ℕ). OpensTo host area base seen) held (was.opened tells faithful),
      weaker disk.moment disk.left_since before after (LeavesInRun disk host area before terms base history) (LeavesOf host area bytes terms base history) (was.any_moment tells faithful) (leaves-of disk host area before bytes terms base history held only),
    )

-- the exchanges of the round behind a connection
behind-made : {T : Type 0} (limit : ℕ) (delivers : Bool) (pumped : Option Pumped) (old new : Hold T) (behind : Behind limit delivers pumped old new) (made : List Exchange)
    → old.exchanges ≡ Some made → new.exchanges ≡ Some (exchanges_behind limit delivers pumped old new behind ++ made)
behind-made limit delivers (Some pumped) old new behind made told = behind.1.2.adds ∙ ap (option_map (λ before. behind.1.1 ++ before)) told
behind-made limit delivers None old new behind made told = ap (λ (h : Hold _). h.exchanges) behind.1 ∙ told

-- ... and of all rounds behind visits
visits-made : {C T : Type 0} (sides : C → Sides) (config : Config) (limit : ℕ) (delivers : Bool) (visits : List (Visit C)) (old new : Desk T) (all : Visits sides config limit delivers visits old new) (made : List Exchange)
    → old.exchanges ≡ Some made → new.exchanges ≡ Some (exchanges_of sides config limit delivers visits old new all ++ made)
visits-made sides config limit delivers [] old new all made told = ap (λ (d : Desk _). d.exchanges) all ∙ told
visits-made sides config limit delivers (v ∷ before) old new (middle, earlier, here) made told =
    let sooner = exchanges_of sides config limit delivers before old middle earlier in
    let served = hold here.middle.pass here.middle.exchanges in
    let done = hold new.pass new.exchanges in
    behind-made limit delivers v.pumped served done here.behind (sooner ++ made) (here.post_waits ∙ visits-made sides config limit delivers before old middle earlier made told)
    ∙ ap Some (sym (append_assoc (exchanges_behind limit delivers v.pumped served done here.behind) sooner made))

visits-told : {C T : Type 0} {sides : C → Sides} {config : Config} {gate : Gate} {first : Known T} {draw : ChaCha} {old new : Work C T} {calls : List Call} {past : Past} (shift : Shift sides config gate first draw old new calls past) → VisitsAreTold shift
visits-told {C} {T} {sides} {config} {gate} {first} {draw} {old} {new} shift =
    let serves = shift.worked.serves in
    record {
      connections = λ door told. serves.door ∙ ap (option_map (λ d. left (ends new.end) (visited serves.visits d))) told;
      exchanges = λ made told. visits-made sides config gate.limit old.delivers serves.visits _ _ serves.served made told;
    }

pub served-runs-keep : {D C : Type 0} (disk : Ghosts D) (sides : C → Sides) → ServedRunsKeep disk sides
served-runs-keep disk sides = λ plan area limit key before workers came runs calls own has.
    let ran = runs.ran calls own has in
    let was = ran-was disk plan area limit before runs.after calls own _ ran in (
      was,
      keeps _ _ [] was.session,
      (λ tells i d below. answers-are-on-disk disk sides (terms_of ran.store) ran.served.first.base _ runs.after (ran.since tells) _ _ _ _ _ _ _ (ran.served.service.each.1 i d below)),
      (λ i d below. visits-told (ran.served.service.each.1 i d below)),
      λ bytes held only tells faithful. held-alone disk plan.host area before runs.after ran.served.first.base ran.served.service.history was bytes held only tells faithful,
    )
