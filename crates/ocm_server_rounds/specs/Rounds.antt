-- Rounds of delivery. Calls and exchanges stand newest first, messages in the order in which they are due.
use Rattle.std.specs.Prelude.{◌≡◌, ℕ, ◌+◌, min, Bool, true, false, List, [], ◌∷◌, ◌++◌, length, if◌then◌else◌, Ok, Err, Option}
use Rattle.ocm_types.specs.declared.letters.Numbered.{Numbered}
use Rattle.ocm_entry.specs.declared.asks.Ask.{Ask}
use Rattle.ocm_entry.specs.declared.asks.Ask.TheVariants as asks
use Rattle.ocm_entry.specs.declared.entries.Entry.{Entry}
use Rattle.ocm_entry.specs.declared.replies.Reply.{Reply}
use Rattle.ocm_entry.specs.declared.replies.Reply.TheVariants as replies
use Rattle.ocm_pump.specs.declared.deliveries.Answered.{Answered}
use Rattle.ocm_pump.specs.declared.exchanges.Exchange.{Exchange}
use Rattle.ocm_pump.specs.declared.faults.PumpFault.{PumpFault}
use Rattle.ocm_pump.specs.declared.faults.PumpFault.TheVariants as faults
use Rattle.ocm_pump.specs.Delivery.{Delivers}
use Rattle.ocm_pump.specs.Exchanges.{Adds}
use Rattle.ocm_turn.specs.Calls.{entry}
use Rattle.ocm_turn.specs.Moves.{Moved}
use Rattle.ocm_turn.specs.Passes.{Known}
use Rattle.ocm_server_rounds.specs.declared.pumped.Pumped.{Pumped}
use Rattle.ocm_server_rounds.specs.declared.pumped.RoundEnd.{RoundEnd}
use Rattle.ocm_server_rounds.specs.declared.pumped.RoundEnd.TheVariants.{Whole, Spent, NoMemory}

-- a count that stands still at the end of a u32
abbrev pub counted : ℕ → ℕ
counted n = min n 4294967295

abbrev pub is_no_memory : Reply → Bool
is_no_memory replies.NoMemory = true
is_no_memory _ = false

-- the end of a round by a reply
abbrev pub end_after : Reply → RoundEnd
end_after reply = if is_no_memory reply then NoMemory else Whole

-- the end of a round by a delivery that came to no answer
abbrev pub end_by : PumpFault → RoundEnd
end_by faults.NoMemory = NoMemory
end_by _ = Whole

abbrev pub is_whole : RoundEnd → Bool
is_whole Whole = true
is_whole _ = false

-- whether a settlement was written, by the reply to it
abbrev pub is_written : Reply → Bool
is_written replies.Done = true
is_written replies.Left = true
is_written _ = false

-- the settlement of a message by what its delivery answered
abbrev pub settlement : Numbered → Answered → Ask
settlement message answered = asks.Settle message.number answered.status answered.id

-- One message: its calls, the exchanges, whether a settlement was made, and the end of the round where it stops at this message.
pub data Tries (message : Numbered) : List Entry → List Exchange → Bool → RoundEnd → Type 0 where
  -- no answer came so far: the delivery goes on
  waits : Tries message [] [] false Whole
  -- the delivery came to no answer
  unanswered : (added : List Exchange) (fault : PumpFault)
      → Delivers message added (Err fault) → Tries message [] added false (end_by fault)
  -- an answer came, and the turnstile's limit was reached
  unsettled : (added : List Exchange) (answered : Answered) → Delivers message added (Ok answered) → Tries message [] added false Spent
  -- an answer came, and the message was settled by it
  was_settled : (added : List Exchange) (answered : Answered) (reply : Reply)
      → Delivers message added (Ok answered) → Tries message (entry (settlement message answered) reply ∷ []) added true (end_after reply)

-- one where something was
abbrev pub one_if : Bool → ℕ
one_if true = 1
one_if false = 0

-- Messages one after another, up to the first that stops the round: the calls, the exchanges, the number of settlements, and the end.
pub data Deliveries : List Numbered → List Entry → List Exchange → ℕ → RoundEnd → Type 0 where
  done : Deliveries [] [] [] 0 Whole
  stopped : (message : Numbered) (messages : List Numbered) (calls : List Entry) (added : List Exchange) (settled : Bool) (end : RoundEnd)
      → Tries message calls added settled end → is_whole end ≡ false
      → Deliveries (message ∷ messages) calls added (one_if settled) end
  next : (message : Numbered) (messages : List Numbered) (calls later : List Entry) (added more : List Exchange) (settled : Bool) (others : ℕ) (end : RoundEnd)
      → Tries message calls added settled Whole → Deliveries messages later more others end
      → Deliveries (message ∷ messages) (later ++ calls) (more ++ added) (one_if settled + others) end

-- the messages of a reply
abbrev pub messages_of : Reply → List Numbered
messages_of (replies.Due messages) = messages
messages_of _ = []

-- A round: its calls, its exchanges, and what it came to.
pub data Round : List Entry → List Exchange → Pumped → Type 0 where
  -- the turnstile's limit was reached
  refused : Round [] [] (record { tried = 0; answered = 0; end = Spent })
  -- there was no memory for the messages
  unread : Round (entry asks.Due replies.NoMemory ∷ []) [] (record { tried = 0; answered = 0; end = NoMemory })
  -- the messages that are due, one after another
  due : (reply : Reply) (calls : List Entry) (added : List Exchange) (settled : ℕ) (end : RoundEnd)
      → is_no_memory reply ≡ false → Deliveries (messages_of reply) calls added settled end
      → Round (calls ++ entry asks.Due reply ∷ []) added
      (record { tried = counted (length (messages_of reply)); answered = counted settled; end = end })

-- what a round changes: the pass, and the exchanges of the post where they are told
pub record Hold (Terms : Type 0) : Type 0 where
  pub pass : Known Terms
  pub exchanges : Option (List Exchange)

abbrev pub hold : {Terms : Type 0} → Known Terms → Option (List Exchange) → Hold Terms
hold pass exchanges = record { pass = pass; exchanges = exchanges }

-- these calls and exchanges were made
pub record Does {Terms : Type 0} (old new : Hold Terms) (calls : List Entry) (added : List Exchange) : Type 0 where
  pub moved : Moved old.pass new.pass calls
  pub adds : Adds old.exchanges new.exchanges added

-- a message was tried
abbrev pub Tried : {Terms : Type 0} → Numbered → Hold Terms → Hold Terms → Bool → RoundEnd → Type 0
Tried message old new settled end =
    (calls : List Entry) × (added : List Exchange) × Does old new calls added × Tries message calls added settled end

-- messages were delivered
abbrev pub Delivered : {Terms : Type 0} → List Numbered → Hold Terms → Hold Terms → ℕ → RoundEnd → Type 0
Delivered messages old new settled end =
    (calls : List Entry) × (added : List Exchange) × Does old new calls added × Deliveries messages calls added settled end

-- a round was made
abbrev pub Rounded : {Terms : Type 0} → Hold Terms → Hold Terms → Pumped → Type 0
Rounded old new pumped = (calls : List Entry) × (added : List Exchange) × Does old new calls added × Round calls added pumped

-- what came of the answer to a delivery: the calls of the settlement, whether it was made, and the end of the round
pub data Settling (message : Numbered) (answered : Answered) : List Entry → Bool → RoundEnd → Type 0 where
  limit_reached : Settling message answered [] false Spent
  replied : (reply : Reply) → Settling message answered (entry (settlement message answered) reply ∷ []) true (end_after reply)

-- a message was settled, where the limit allowed it
abbrev pub Settles : {Terms : Type 0} → Numbered → Answered → Known Terms → Known Terms → Bool → RoundEnd → Type 0
Settles message answered old new settled end = (calls : List Entry) × Moved old new calls × Settling message answered calls settled end

-- a reply to the question for messages was acted on
abbrev pub Answers : {Terms : Type 0} → Reply → Hold Terms → Hold Terms → Pumped → Type 0
Answers reply old new pumped = (calls : List Entry) × (added : List Exchange) × Does old new calls added × Round (calls ++ entry asks.Due reply ∷ []) added pumped
