-- A story each event of which is a step is a run.
use Rattle.std.proofs.Common.{◌≡◌, ℕ, List, [], ◌∷◌, Bool, true, false, refl, sym, subst}
use Rattle.std.specs.Prelude.{Option, Some, None}
use Rattle.std.specs.Option.{option_map_or}
use mathlib.Core.Logic.{inl, inr}
use Rattle.ocm_entry.specs.declared.asks.Ask.{Ask}
use Rattle.ocm_entry.specs.declared.replies.Reply.{Reply}
use Rattle.ocm_rules.specs.declared.rows.Message.{Message}
use Rattle.ocm_rules.specs.Numbers.{at_number}
use Rattle.ocm_rules.specs.Messages.{out}
use Rattle.ocm_rules.specs.Lean.{lean}
use Rattle.ocm_rules.specs.History.{answer}
use Rattle.ocm_law_lean.proofs.Answered.{lean-lean, lean-legal}
use Rattle.ocm_law_sessions.specs.Sessions.{IsReply, IsToldReply, fault_in, fits, would_change}
use Rattle.ocm_entry.specs.Deliveries.{letter_ask}
use Rattle.ocm_law_world.specs.World.{Answer, IsReached, Session, Step, World, answer_to, changed, history_of, kept_at, reopened, settlement_by, with_call}
use Rattle.ocm_law_world.specs.World.Flight.{Nothing}
use Rattle.ocm_law_world.specs.World.Run.{Goes_on}
use Rattle.ocm_law_world.specs.World.Step.{Begins, Asks, Delivers, Foreign, Comes, Crashes}
use Rattle.ocm_law_world.specs.Stories.{CanHappen, CanReturn, Event, Begin, Do, Deliver, Invent, Return, Crash, Holds, IsAnswer, IsStory, MessageIsAnswered, after, delivered, happens, returned}
use Rattle.ocm_law_world.proofs.Laws.{legal-reached}
use Rattle.ocm_law_world.proofs.Steps.{reached-from}

-- what is there
there : {X : Type 0} (P : X → Type 0) (o : Option X) → Holds P o → (x : X) × (o ≡ Some x) × P x
there P None h = absurd h
there P (Some x) h = (x, refl, h)

-- the answer of the rules is a reply of a session that has room
answer-told : (change : Bool) (fault : Option ℕ) (room : Bool) (answered reply : Reply) → reply ≡ answered → fault ≡ None → room ≡ true → IsToldReply change fault room answered reply
answer-told false fault room answered reply is fine roomy = is
answer-told true None true answered reply is fine roomy = inl is
answer-told true None false answered reply is fine roomy = absurd (cc)
answer-told true (Some count) room answered reply is fine roomy = absurd (cc)

reply-told : (host : List ℕ) (s : Session) (ask : Ask) (reply : Reply) → IsAnswer host ask reply s → IsReply host s.area s.base s.calls ask reply
reply-told host s ask reply (is, fine, room) = inr (answer-told (would_change host (history_of s) ask) (fault_in s.calls) (fits host s.area (history_of s) ask) (answer host (history_of s) ask) reply is fine room)

-- ---- events

step-deliver : (w : World) (host : List ℕ) (s : Session) (number : ℕ) (fresh : List ℕ) (reply : Reply) (message : Message) → w.session host ≡ Some s → at_number (out host (kept_at host s)) number ≡ Some message
    → MessageIsAnswered w fresh reply message → Step w (delivered w host number fresh reply message)
step-deliver w host s number fresh reply message is sent answers =
    let peer = there (IsAnswer message.to (letter_ask message.letter fresh) reply) (w.session message.to) answers in
    let P : Option Session → Type 0 = λ o. Step w (option_map_or (λ peer. changed w message.to (with_call peer (letter_ask message.letter fresh) reply) (answer_to host number reply ∷ w.answers)) o w) in
    subst P (sym peer.1) (Delivers host s number message peer.0 fresh reply is sent peer.1 (reply-told message.to peer.0 (letter_ask message.letter fresh) reply peer.2))

step-return : (w : World) (reply : Reply) (answers : List Answer) → w.answers ≡ answers → CanReturn w reply answers → Step w (returned w reply answers)
step-return w reply [] under can = absurd can
step-return w reply (a ∷ older) under can =
    let s = there (IsAnswer a.host (settlement_by a) reply) (w.session a.host) can in
    let P : Option Session → Type 0 = λ o. Step w (option_map_or (λ s. changed w a.host (with_call s (settlement_by a) reply) older) o w) in
    subst P (sym s.1) (Comes [] older a s.0 reply under s.1 (reply-told a.host s.0 (settlement_by a) reply s.2))

step-event : (w : World) (event : Event) → IsReached w → CanHappen w event → Step w (happens w event)
step-event w (Begin host) reached can = Begins host 100000 can.0 can.1
step-event w (Do host ask reply) reached can =
    let s = there (IsAnswer host ask reply) (w.session host) can.1 in
    let P : Option Session → Type 0 = λ o. Step w (option_map_or (λ s. changed w host (with_call s ask reply) w.answers) o w) in
    subst P (sym s.1) (Asks host s.0 ask reply s.1 can.0 (reply-told host s.0 ask reply s.2))
step-event w (Deliver host number fresh reply) reached can =
    let s = there (λ (s : Session). Holds (MessageIsAnswered w fresh reply) (at_number (out host (kept_at host s)) number)) (w.session host) can in
    let message = there (MessageIsAnswered w fresh reply) (at_number (out host (kept_at host s.0)) number) s.2 in
    let P : Option Session → Type 0 = λ o. Step w (option_map_or (λ s. option_map_or (delivered w host number fresh reply) (at_number (out host (kept_at host s)) number) w) o w) in
    let Q : Option Message → Type 0 = λ o. Step w (option_map_or (delivered w host number fresh reply) o w) in
    subst P (sym s.1) (subst Q (sym message.1) (step-deliver w host s.0 number fresh reply message.0 s.1 message.1 message.2))
step-event w (Invent host number status) reached can =
    let s = there (λ (s : Session). Holds (λ (m : Message). w.foreign m.to ≡ true) (at_number (out host (kept_at host s)) number)) (w.session host) can in
    let m = there (λ (m : Message). w.foreign m.to ≡ true) (at_number (out host (kept_at host s.0)) number) s.2 in
    Foreign host s.0 number m.0 status None s.1 m.1 m.2
step-event w (Return reply) reached can = step-return w reply w.answers refl can
step-event w (Crash host) reached can =
    let s = there (λ (s : Session). Unit {0}) (w.session host) can in
    let legal = legal-reached w host s.0 reached s.1 in
    let P : Option Session → Type 0 = λ o. Step w (option_map_or (λ s. changed w host (reopened s (lean host (history_of s))) w.answers) o w) in
    subst P (sym s.1) (Crashes host s.0 None w.answers (lean host (history_of s.0)) s.1 Nothing (lean-legal host (history_of s.0) legal, inl (lean-lean host (history_of s.0) legal)))

-- a story each event of which is a step is a run
pub story-run : (w : World) (events : List Event) → IsReached w → IsStory w events → IsReached (after w events)
story-run w [] reached story = reached
story-run w (event ∷ events) reached story =
    story-run (happens w event) events (reached-from w.foreign (happens w event) (Goes_on w (happens w event) reached (step-event w event reached story.0))) story.1
