-- Stories: worlds made event by event, so that worked cases can be computed. Each event tells its reply.
use Rattle.std.specs.Prelude.{◌≡◌, ℕ, List, [], ◌∷◌, true, false, Option, Some, None}
use Rattle.std.specs.Option.{option_map_or}
use Rattle.ocm_entry.specs.declared.asks.Ask.{Ask}
use Rattle.ocm_entry.specs.declared.replies.Reply.{Reply}
use Rattle.ocm_rules.specs.declared.rows.Message.{Message}
use Rattle.ocm_rules.specs.Numbers.{at_number}
use Rattle.ocm_rules.specs.Messages.{out}
use Rattle.ocm_rules.specs.History.{answer}
use Rattle.ocm_rules.specs.Lean.{lean}
use Rattle.ocm_law_sessions.specs.Sessions.{fault_in, fits}
use Rattle.ocm_entry.specs.Deliveries.{letter_ask}
use Rattle.ocm_law_world.specs.World.{Answer, Session, World, answer_to, changed, history_of, is_settlement, kept_at, new_session, reopened, settlement_by, with_answer, with_call}

-- what happens: a server begins; it is asked, and replies; a message of it is delivered, with drawn bytes, and replied to; a
-- foreign host answers a message of it, with a status; the last answer that is under way comes, and is replied to; a server
-- crashes, and opens its journal
pub data Event : Type 0 where
  Begin : List ℕ → Event
  Do : List ℕ → Ask → Reply → Event
  Deliver : List ℕ → ℕ → List ℕ → Reply → Event
  Invent : List ℕ → ℕ → ℕ → Event
  Return : Reply → Event
  Crash : List ℕ → Event

-- a message is delivered to the server that it is for
abbrev pub delivered : World → List ℕ → ℕ → List ℕ → Reply → Message → World
delivered w host number fresh reply message =
    option_map_or (λ peer. changed w message.to (with_call peer (letter_ask message.letter fresh) reply) (answer_to host number reply ∷ w.answers)) (w.session message.to) w

-- the last of the answers that are under way comes
abbrev pub returned : World → Reply → List Answer → World
returned w reply [] = w
returned w reply (a ∷ older) = option_map_or (λ s. changed w a.host (with_call s (settlement_by a) reply) older) (w.session a.host) w

-- the world after an event, and after all of a story
abbrev pub happens : World → Event → World
happens w (Begin host) = changed w host (new_session 100000) w.answers
happens w (Do host ask reply) = option_map_or (λ s. changed w host (with_call s ask reply) w.answers) (w.session host) w
happens w (Deliver host number fresh reply) = option_map_or (λ s. option_map_or (delivered w host number fresh reply) (at_number (out host (kept_at host s)) number) w) (w.session host) w
happens w (Invent host number status) = with_answer w (record { host = host; number = number; status = status; id = None })
happens w (Return reply) = returned w reply w.answers
happens w (Crash host) = option_map_or (λ s. changed w host (reopened s (lean host (history_of s))) w.answers) (w.session host) w

abbrev pub after : World → List Event → World
after w [] = w
after w (event ∷ events) = after (happens w event) events

-- ---- stories that are runs

-- what is there, and passes
abbrev pub Holds : {X : Type 0} → (X → Type 0) → Option X → Type 0
Holds P None = ⊥
Holds P (Some x) = P x

-- the reply to an ask is the answer of the rules, for which there is room, and the disk did not fail
abbrev pub IsAnswer : List ℕ → Ask → Reply → Session → Type 0
IsAnswer host ask reply s = (reply ≡ answer host (history_of s) ask) × (fault_in s.calls ≡ None) × (fits host s.area (history_of s) ask ≡ true)

-- an event is a step from this world
abbrev pub MessageIsAnswered : World → List ℕ → Reply → Message → Type 0
MessageIsAnswered w fresh reply message = Holds (IsAnswer message.to (letter_ask message.letter fresh) reply) (w.session message.to)

abbrev pub CanReturn : World → Reply → List Answer → Type 0
CanReturn w reply [] = ⊥
CanReturn w reply (a ∷ older) = Holds (IsAnswer a.host (settlement_by a) reply) (w.session a.host)

abbrev pub CanHappen : World → Event → Type 0
CanHappen w (Begin host) = (w.foreign host ≡ false) × (w.session host ≡ None)
CanHappen w (Do host ask reply) = (is_settlement ask ≡ false) × Holds (IsAnswer host ask reply) (w.session host)
CanHappen w (Deliver host number fresh reply) =
    Holds (λ (s : Session). Holds (MessageIsAnswered w fresh reply) (at_number (out host (kept_at host s)) number)) (w.session host)
CanHappen w (Invent host number status) = Holds (λ (s : Session). Holds (λ (m : Message). w.foreign m.to ≡ true) (at_number (out host (kept_at host s)) number)) (w.session host)
CanHappen w (Return reply) = CanReturn w reply w.answers
CanHappen w (Crash host) = Holds (λ (s : Session). Unit {0}) (w.session host)

-- each event of a story is a step from the world before it
abbrev pub IsStory : World → List Event → Type 0
IsStory w [] = Unit {0}
IsStory w (event ∷ events) = CanHappen w event × IsStory (happens w event) events
