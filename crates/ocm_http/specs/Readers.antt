-- What a reader reads of its source.
use Rattle.std.specs.Prelude.{◌≡◌, ℕ, ◌+◌, ◌*◌, ◌≤◌, ◌⊎◌, Bool, true, List, [], ◌++◌, length, Option, Some, None, Result, Ok, Err, IfOk, IfErr, IfSome, IsTrue}
use Rattle.ocm_base.specs.Outside.{Flow, Came, IsDry}
use Rattle.ocm_http.specs.Places.{past}
use Rattle.ocm_http.specs.Frames.{Frame, Given, Refused, Over, IsFrame}
use Rattle.ocm_http.specs.Stages.{Stands, Rest, budget}
use Rattle.ocm_http.specs.declared.messages.Kind.{Kind}
use Rattle.ocm_http.specs.declared.messages.Message.{Message}
use Rattle.ocm_http.specs.declared.messages.FrameFault.{FrameFault}
use Rattle.ocm_http.specs.declared.messages.FrameFault.TheVariants.{ReadFault, NoMemory}
use Rattle.ocm_http.specs.declared.stages.Rules.{Rules}
use Rattle.ocm_http.specs.declared.stages.Stage.{Stage}

-- a reader: the messages that it reads, how many bytes their bodies have at most, the place of the next message, the
-- bytes that were taken from the source and are still to be read, whether it answered a fault, and how many bytes were
-- read since the last message that was given
pub record ReaderState : Type 0 where
  pub kind : Kind
  pub max : ℕ
  pub place : ℕ
  pub held : List ℕ
  pub failed : Bool
  pub gone : ℕ

-- how many bytes one message takes at most, with those behind it that are read with it
abbrev pub taken_at_most : ℕ → ℕ
taken_at_most max = 262 * (max + 1) + 32768

-- how many bytes a reader holds: those that were taken from its source and are part of no message that was given
abbrev pub holding : ReaderState → ℕ
holding reader = past reader.gone (length reader.held)

-- what a reader holds after a call that took these bytes: what is behind the message that was given; where none was
-- given, what it held before and all that it took
abbrev pub Keeps : ReaderState → ReaderState → List ℕ → Result (Option Message) FrameFault → Type 0
Keeps old new got (Ok (Some message)) =
    (of_message : List ℕ) × (old.held ++ got ≡ of_message ++ new.held)
    × (new.place ≡ past old.place (length of_message)) × (holding new ≡ length new.held)
Keeps old new got (Ok None) =
    (holding new ≡ past (holding old) (length got)) × (new.held ≡ []) × (new.place ≡ past old.place (length old.held + length got))
Keeps old new got (Err fault) = (holding new ≡ past (holding old) (length got)) × (new.place ≡ old.place)

-- what was held and what was then taken from the source is this, where the input has ended or not
pub record ReadingOf (kind : Kind) (max place : ℕ) (held : List ℕ) (before after : Flow) (ended : Bool) (frame : Frame) : Type 0 where
  pub got : List ℕ
  pub taken : Came before after got
  pub told : IsTrue ended → IsDry after
  pub is_frame : IsFrame kind max place (held ++ got) ended frame

-- the same of a message, behind which these bytes are left: what was held and taken is the message's and these, and
-- the count is that of the message's bytes past another
pub record MessageOf (kind : Kind) (max place : ℕ) (held : List ℕ) (before after : Flow) (frame : Frame) (left : List ℕ) (base count : ℕ) : Type 0 where
  pub ended : Bool
  pub reading : ReadingOf kind max place held before after ended frame
  pub of_message : List ℕ
  pub split : held ++ reading.got ≡ of_message ++ left
  pub counted : count ≡ past base (length of_message)

-- what the reading of one message took, whether it came to one or not: of what was held and taken so many bytes are gone,
-- and the others are left
pub record Spends (max : ℕ) (held : List ℕ) (before after : Flow) (left : List ℕ) (count : ℕ) : Type 0 where
  pub got : List ℕ
  pub taken : Came before after got
  pub few : length got ≤ taken_at_most max
  pub gone : List ℕ
  pub split : held ++ got ≡ gone ++ left
  pub counted : count ≡ past 0 (length gone)

-- all that the reading of one message gave: a message, behind which these bytes are left; the end of the input, and none are;
-- or a fault
pub record ReadOf (kind : Kind) (max place : ℕ) (held : List ℕ) (before after : Flow) (left : List ℕ) (count : ℕ) (result : Result (Option Message) FrameFault) : Type 0 where
  pub message : IfOk result (λ o. IfSome o (λ m. MessageOf kind max place held before after (Given m left) left 0 count))
  pub over : IfOk result (λ o. o ≡ None → ReadingOf kind max place held before after true Over)
  pub emptied : IfOk result (λ o. o ≡ None → left ≡ [])
  pub fault : IfErr result (λ f. ((f ≡ ReadFault) → ⊥) → ((f ≡ NoMemory) → ⊥) → (ended : Bool) × ReadingOf kind max place held before after ended (Refused f))
  pub spends : Spends max held before after left count

-- the same of a reader
abbrev pub Reads : ReaderState → Flow → Flow → Bool → Frame → Type 0
Reads reader before after ended frame = ReadingOf reader.kind reader.max reader.place reader.held before after ended frame

-- the same of a reader that gave a message and then holds these bytes, at this place
abbrev pub ReadsMessage : ReaderState → Flow → Flow → Frame → List ℕ → ℕ → Type 0
ReadsMessage reader before after frame left place =
    MessageOf reader.kind reader.max reader.place reader.held before after frame left reader.place place

-- a message that is being read: what was taken of the source, what of that is gone, and what the rest means
pub record Under (rules : Rules) (before after : Flow) (held left : List ℕ) (stage : Stage) (spent : ℕ) : Type 0 where
  pub got : List ℕ
  pub gone : List ℕ
  pub taken : Came before after got
  pub split : held ++ got ≡ gone ++ left
  pub stands : Stands rules stage
  pub counts : length gone + budget rules stage ≤ 24832 + 259 * rules.max
  pub spent_is : spent ≡ past 0 (length gone)
  pub rest : (more : List ℕ) (ended : Bool) (frame : Frame) → Rest rules stage (left ++ more) ended frame
      → IsFrame rules.kind rules.max rules.place ((held ++ got) ++ more) ended frame

-- ---- a reader that read

-- a reader that holds these bytes in place of its own
abbrev pub with_held : ReaderState → List ℕ → ReaderState
with_held reader held = record { kind = reader.kind; max = reader.max; place = reader.place; held = held; failed = reader.failed; gone = reader.gone }

-- a reader behind what was answered, where so many bytes of it are gone
abbrev pub settled : ReaderState → ℕ → Result (Option Message) FrameFault → ReaderState
settled old count (Ok (Some message)) = record { kind = old.kind; max = old.max; place = past old.place count; held = old.held; failed = old.failed; gone = 0 }
settled old count (Ok None) = record { kind = old.kind; max = old.max; place = past old.place count; held = old.held; failed = old.failed; gone = past old.gone count }
settled old count (Err fault) = record { kind = old.kind; max = old.max; place = old.place; held = old.held; failed = true; gone = past old.gone count }

-- what was read is answered, unless there is no memory to share its body
abbrev pub Settles : Result (Option Message) FrameFault → Result (Option Message) FrameFault → Type 0
Settles read result = (result ≡ read) ⊎ (result ≡ Err NoMemory)

-- what a reader gave of its next message, which was this before and that after
pub record NextOf (old new : ReaderState) (before after : Flow) (result : Result (Option Message) FrameFault) : Type 0 where
  pub message : IfOk result (λ o. IfSome o (λ m. ReadsMessage old before after (Given m new.held) new.held new.place))
  pub over : IfOk result (λ o. o ≡ None → Reads old before after true Over)
  pub fault : IfErr result (λ f. ((f ≡ ReadFault) → ⊥) → ((f ≡ NoMemory) → ⊥) → (ended : Bool) × Reads old before after ended (Refused f))
  pub taken : (got : List ℕ) × Came before after got × (length got ≤ taken_at_most old.max) × Keeps old new got result
