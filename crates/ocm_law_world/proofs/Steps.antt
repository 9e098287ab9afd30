-- What each step leaves of each server.
use Rattle.std.proofs.Common.{◌≡◌, ℕ, List, ◌∷◌, ◌++◌, Bool, true, false, refl, sym, ap, ◌∙◌, subst}
use Rattle.std.specs.Prelude.{Option, Some, None, ◌⊎◌, if◌then◌else◌}
use mathlib.Core.Logic.{inl, inr}
use Rattle.ocm_entry.specs.declared.asks.Ask.{Ask}
use Rattle.ocm_entry.specs.declared.replies.Reply.{Reply}
use Rattle.ocm_entry.specs.declared.entries.Entry.{Entry}
use Rattle.ocm_rules.specs.Numbers.{same_text}
use Rattle.ocm_rules.specs.Views.{View}
use Rattle.ocm_rules.specs.Messages.{view_of}
use Rattle.ocm_rules.specs.Lean.{lean}
use Rattle.ocm_rules.specs.History.{kept, IsLegal}
use Rattle.ocm_rules.proofs.Searches.{some-same}
use Rattle.ocm_rules.proofs.Numbering.{not_none}
use Rattle.ocm_law_sessions.specs.Sessions.{IsReply, IsSession, fault_in, heard}
use Rattle.ocm_law_sessions.specs.Crashes.{HasLeanWith, IsNext, unheard}
use Rattle.ocm_law_sessions.proofs.Replying.{reply-given, session-legal, view-same}
use Rattle.ocm_entry.specs.Deliveries.{letter_ask}
use Rattle.ocm_law_world.specs.World.{Session, Answer, World, answer_to, changed, empty, empty_among, history_of, new_session, reopened, settlement_by, with_call, IsReached, Run, Step}
use Rattle.ocm_law_world.specs.World.Run.{Stays, Goes_on}
use Rattle.ocm_law_world.specs.World.Step.{Begins, Asks, Delivers, Foreign, Comes, Crashes}
use Rattle.ocm_law_world.specs.Guests.{view_at}
use Rattle.ocm_law_world.proofs.Texts.{text-equal}
use Rattle.ocm_law_world.proofs.Growth.{Lasts}

-- ---- looking servers up

-- what holds of the session that a host has now, and of all others, holds of all
pub looked : (w : World) (host : List ℕ) (s : Session) (answers : List Answer) (P : List ℕ → Session → Type 0) → P host s → ((other : List ℕ) (t : Session) → w.session other ≡ Some t → P other t)
    → (other : List ℕ) (t : Session) → (changed w host s answers).session other ≡ Some t → P other t
looked w host s answers P new old other t h = by_test (same_text other host) refl h
  where
    by_test : (b : Bool) → same_text other host ≡ b → (if b then Some s else w.session other) ≡ Some t → P other t
    by_test true e g =
        let same : s ≡ t = some-same s t g in
        let Q : List ℕ → Type 0 = λ x. P x t in
        let R : Session → Type 0 = λ x. P host x in
        subst Q (sym (text-equal other host e)) (subst R same new)
    by_test false e g = old other t g

-- ---- sessions

-- each server's calls are those of a session
abbrev pub AreSessions : World → Type 0
AreSessions w = (host : List ℕ) (s : Session) → w.session host ≡ Some s → IsSession host s.area s.base s.calls

abbrev SessionOf : List ℕ → Session → Type 0
SessionOf host s = IsSession host s.area s.base s.calls

pub sessions-step : (w next : World) → AreSessions w → Step w next → AreSessions next
sessions-step w _ all (Begins host area ours none) = looked w host (new_session area) w.answers SessionOf tt all
sessions-step w _ all (Asks host s ask reply is other told) = looked w host (with_call s ask reply) w.answers SessionOf (told, all host s is) all
sessions-step w _ all (Delivers host s number message peer fresh reply is sent there told) =
    looked w message.to (with_call peer (letter_ask message.letter fresh) reply) (answer_to host number reply ∷ w.answers) SessionOf (told, all message.to peer there) all
sessions-step w _ all (Foreign host s number message status id is sent theirs) = all
sessions-step w _ all (Comes newer older a s reply under is told) = looked w a.host (with_call s (settlement_by a) reply) (newer ++ older) SessionOf (told, all a.host s is) all
sessions-step w _ all (Crashes host s flight answers next is flies comes) = looked w host (reopened s next) answers SessionOf comes.0 all

pub sessions-run : (first w : World) → AreSessions first → Run first w → AreSessions w
sessions-run first _ all Stays = all
sessions-run first _ all (Goes_on w next run step) = sessions-step w next (sessions-run first w all run) step

pub none-here : (foreign : List ℕ → Bool) → AreSessions (empty_among foreign)
none-here foreign host s h = absurd (cc)

-- the sessions of a world that is reached
pub sessions-reached : (w : World) → IsReached w → AreSessions w
sessions-reached w run = sessions-run (empty_among w.foreign) w (none-here w.foreign) run

-- ---- foreign hosts

-- they stay foreign, and others do not become so
foreign-step : (w next : World) → Step w next → next.foreign ≡ w.foreign
foreign-step w _ (Begins host area ours none) = refl
foreign-step w _ (Asks host s ask reply is other told) = refl
foreign-step w _ (Delivers host s number message peer fresh reply is sent there told) = refl
foreign-step w _ (Foreign host s number message status id is sent theirs) = refl
foreign-step w _ (Comes newer older a s reply under is told) = refl
foreign-step w _ (Crashes host s flight answers next is flies comes) = refl

pub foreign-run : (first w : World) → Run first w → w.foreign ≡ first.foreign
foreign-run first _ Stays = refl
foreign-run first _ (Goes_on w next run step) = foreign-step w next step ∙ foreign-run first w run

pub reached-from : (foreign : List ℕ → Bool) (w : World) → Run (empty_among foreign) w → IsReached w
reached-from foreign w run = subst (λ f. Run (empty_among f) w) (sym (foreign-run (empty_among foreign) w run)) run

-- where none was at the beginning
pub alone-reached : (w : World) → Run empty w → IsReached w
alone-reached w run = reached-from empty.foreign w run

pub alone-ours : (w : World) → Run empty w → (host : List ℕ) → w.foreign host ≡ false
alone-ours w run host = ap (λ (f : List ℕ → Bool). f host) (foreign-run empty w run)

-- no server of this program has a foreign host
abbrev AreOurs : World → Type 0
AreOurs w = (host : List ℕ) (s : Session) → w.session host ≡ Some s → w.foreign host ≡ false

ours-step : (w next : World) → AreOurs w → Step w next → AreOurs next
ours-step w _ all (Begins host area ours none) = looked w host (new_session area) w.answers (λ x s. w.foreign x ≡ false) ours all
ours-step w _ all (Asks host s ask reply is other told) = looked w host (with_call s ask reply) w.answers (λ x s. w.foreign x ≡ false) (all host s is) all
ours-step w _ all (Delivers host s number message peer fresh reply is sent there told) =
    looked w message.to (with_call peer (letter_ask message.letter fresh) reply) (answer_to host number reply ∷ w.answers) (λ x s. w.foreign x ≡ false) (all message.to peer there) all
ours-step w _ all (Foreign host s number message status id is sent theirs) = all
ours-step w _ all (Comes newer older a s reply under is told) = looked w a.host (with_call s (settlement_by a) reply) (newer ++ older) (λ x s. w.foreign x ≡ false) (all a.host s is) all
ours-step w _ all (Crashes host s flight answers next is flies comes) = looked w host (reopened s next) answers (λ x s. w.foreign x ≡ false) (all host s is) all

ours-run : (foreign : List ℕ → Bool) (w : World) → Run (empty_among foreign) w → AreOurs w
ours-run foreign _ Stays host s h = absurd (cc)
ours-run foreign _ (Goes_on w next run step) host s h = ours-step w next (ours-run foreign w run) step host s h

pub ours-reached : (w : World) (host : List ℕ) (s : Session) → IsReached w → w.session host ≡ Some s → w.foreign host ≡ false
ours-reached w host s reached is = ours-run w.foreign w reached host s is

-- ---- how a session goes on

-- What is read of a session is what was read of another, or with one entry more, whose ask is sound.
abbrev pub Onward : (Ask → Type 0) → List ℕ → Session → Session → Type 0
Onward Sound host s t = (view_at host t ≡ view_at host s)
    ⊎ ((e : Entry) × Sound e.ask × IsLegal host (e ∷ history_of s) × (view_at host t ≡ view_of host (kept host (e ∷ history_of s))))

abbrev pub Any : Ask → Type 0
Any ask = Unit {0}

pub onward-weaker : (Sound : Ask → Type 0) (host : List ℕ) (s t : Session) → Onward Sound host s t → Onward Any host s t
onward-weaker Sound host s t (inl same) = inl same
onward-weaker Sound host s t (inr (e, sound, legal, same)) = inr (e, tt, legal, same)

-- by a call
pub onward-call : (Sound : Ask → Type 0) (host : List ℕ) (s : Session) (ask : Ask) (reply : Reply) → IsSession host s.area s.base s.calls → IsReply host s.area s.base s.calls ask reply → Sound ask → Onward Sound host s (with_call s ask reply)
onward-call Sound host s ask reply session told sound =
    inr (record { ask = ask; reply = reply }, sound, (reply-given host s.area (fault_in s.calls) (history_of s) ask reply told, session-legal host s.area s.base s.calls session), refl)

-- by a crash
pub onward-crash : (Sound : Ask → Type 0) (host : List ℕ) (s : Session) (flight : Option Ask) (next : List Entry) → IsSession host s.area s.base s.calls → IsNext host s.base s.calls flight next
    → ((ask : Ask) → unheard host s.base s.calls flight ≡ Some ask → Sound ask) → Onward Sound host s (reopened s next)
onward-crash Sound host s flight next session comes sound = by_case comes.1
  where
    g : List Entry
    g = history_of s

    by_ask : (o : Option Ask) → unheard host s.base s.calls flight ≡ o → HasLeanWith host g o next → Onward Sound host s (reopened s next)
    by_ask None e with = absurd with
    by_ask (Some ask) e with =
        inr (heard host g ask, sound ask e, (inl refl, session-legal host s.area s.base s.calls session), view-same host next (heard host g ask ∷ g) with)

    by_case : (lean host next ≡ lean host g) ⊎ HasLeanWith host g (unheard host s.base s.calls flight) next → Onward Sound host s (reopened s next)
    by_case (inl same) = inl (view-same host next g same)
    by_case (inr with) = by_ask (unheard host s.base s.calls flight) refl with

-- what lasts
pub onward-lasts : (Q : View → Type 0) (host : List ℕ) (s t : Session) → Lasts Q → Onward Any host s t → Q (view_at host s) → Q (view_at host t)
onward-lasts Q host s t stays (inl same) q = subst Q (sym same) q
onward-lasts Q host s t stays (inr (e, sound, legal, same)) q = subst Q (sym same) (stays host e (history_of s) legal q)

-- ---- how a world goes on

-- a server that is there stays, and goes on
abbrev pub Grows : World → World → Type 0
Grows w next = (host : List ℕ) (s : Session) → w.session host ≡ Some s → (t : Session) × (next.session host ≡ Some t) × Onward Any host s t

-- where one server goes on, all do
pub grows-at : (w : World) (host : List ℕ) (s t : Session) (answers : List Answer) → w.session host ≡ Some s → Onward Any host s t → Grows w (changed w host t answers)
grows-at w host s t answers is on other u there = by_test (same_text other host) refl
  where
    by_test : (b : Bool) → same_text other host ≡ b → (v : Session) × ((if b then Some t else w.session other) ≡ Some v) × Onward Any other u v
    by_test true e =
        let same_host : other ≡ host = text-equal other host e in
        let same : u ≡ s = some-same u s (sym there ∙ ap w.session same_host ∙ is) in
        let P : List ℕ → Type 0 = λ x. Onward Any x u t in
        let Q : Session → Type 0 = λ x. Onward Any host x t in
        (t, refl, subst P (sym same_host) (subst Q (sym same) on))
    by_test false e = (u, there, inl refl)

-- a new server leaves the others as they are
pub grows-new : (w : World) (host : List ℕ) (t : Session) (answers : List Answer) → w.session host ≡ None → Grows w (changed w host t answers)
grows-new w host t answers none other u there = by_test (same_text other host) refl
  where
    by_test : (b : Bool) → same_text other host ≡ b → (v : Session) × ((if b then Some t else w.session other) ≡ Some v) × Onward Any other u v
    by_test true e = absurd (not_none (w.session other) u there (ap w.session (text-equal other host e) ∙ none))
    by_test false e = (u, there, inl refl)

pub grows-step : (w next : World) → AreSessions w → Step w next → Grows w next
grows-step w _ all (Begins host area ours none) = grows-new w host (new_session area) w.answers none
grows-step w _ all (Asks host s ask reply is other told) = grows-at w host s (with_call s ask reply) w.answers is (onward-call Any host s ask reply (all host s is) told tt)
grows-step w _ all (Delivers host s number message peer fresh reply is sent there told) =
    grows-at w message.to peer (with_call peer (letter_ask message.letter fresh) reply) (answer_to host number reply ∷ w.answers) there (onward-call Any message.to peer (letter_ask message.letter fresh) reply (all message.to peer there) told tt)
grows-step w _ all (Foreign host s number message status id is sent theirs) = λ other t there. (t, there, inl refl)
grows-step w _ all (Comes newer older a s reply under is told) = grows-at w a.host s (with_call s (settlement_by a) reply) (newer ++ older) is (onward-call Any a.host s (settlement_by a) reply (all a.host s is) told tt)
grows-step w _ all (Crashes host s flight answers next is flies comes) =
    grows-at w host s (reopened s next) answers is (onward-crash Any host s flight next (all host s is) comes (λ ask e. tt))

-- what lasts, holds at each host after each step, and so along each run
abbrev pub HoldsAt : (View → Type 0) → World → List ℕ → Type 0
HoldsAt Q w host = (s : Session) × (w.session host ≡ Some s) × Q (view_at host s)

pub lasts-grown : (Q : View → Type 0) (w next : World) (host : List ℕ) → Lasts Q → Grows w next → HoldsAt Q w host → HoldsAt Q next host
lasts-grown Q w next host stays grows (s, is, q) =
    let on = grows host s is in
    (on.0, on.1, onward-lasts Q host s on.0 stays on.2 q)

pub lasts-run : (Q : View → Type 0) (first w : World) (host : List ℕ) → Lasts Q → AreSessions first → Run first w → HoldsAt Q first host → HoldsAt Q w host
lasts-run Q first _ host stays all Stays q = q
lasts-run Q first _ host stays all (Goes_on w next run step) q =
    lasts-grown Q w next host stays (grows-step w next (sessions-run first w all run) step) (lasts-run Q first w host stays all run q)
