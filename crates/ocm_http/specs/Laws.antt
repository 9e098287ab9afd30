-- Laws of frames.
use Rattle.std.specs.Prelude.{◌≡◌, ℕ, ◌+◌, Bool, false, List, ◌∷◌, ◌++◌, length, ⊤}
use Rattle.ocm_http.specs.Places.{past}
use Rattle.ocm_http.specs.Frames.{Frame, Given, Refused, Awaited, Over, IsFrame, Frames}
use Rattle.ocm_http.specs.Messages.{IsRequest}
use Rattle.ocm_http.specs.declared.messages.Kind.{Kind}
use Rattle.ocm_http.specs.declared.messages.Kind.TheVariants.{Requests}
use Rattle.ocm_http.specs.declared.messages.Message.{Message}

-- a frame is a message or a fault
abbrev pub IsKnown : Frame → Type 0
IsKnown (Given message rest) = ⊤
IsKnown (Refused fault) = ⊤
IsKnown Awaited = ⊥
IsKnown Over = ⊥

-- a frame with more bytes behind it
abbrev pub behind : Frame → List ℕ → Frame
behind (Given message rest) more = Given message (rest ++ more)
behind (Refused fault) more = Refused fault
behind Awaited more = Awaited
behind Over more = Over

-- what bytes are, where the input goes on, is a message or a fault: then it is that with more bytes behind them, whether
-- the input ends with these or not
abbrev pub MoreChangesNothing : Type 0
MoreChangesNothing =
    (kind : Kind) (max place : ℕ) (bytes more : List ℕ) (ended : Bool) (frame : Frame)
    → IsFrame kind max place bytes false frame → IsKnown frame
    → IsFrame kind max place (bytes ++ more) ended (behind frame more)

-- bytes are at most one frame
abbrev pub OneFrame : Type 0
OneFrame =
    (kind : Kind) (max place : ℕ) (bytes : List ℕ) (ended : Bool) (a b : Frame)
    → IsFrame kind max place bytes ended a → IsFrame kind max place bytes ended b → a ≡ b

-- a message that was read is the first of the stream's, however the stream goes on, and what follows it are the rest
abbrev pub FirstOfStream : Type 0
FirstOfStream =
    (kind : Kind) (max place n : ℕ) (bytes left later : List ℕ) (ended : Bool) (message : Message) (messages : List Message) (frame : Frame)
    → IsFrame kind max place bytes false (Given message left) → n + length left ≡ length bytes
    → Frames kind max (past place n) (left ++ later) ended messages frame
    → Frames kind max place (bytes ++ later) ended (message ∷ messages) frame

-- a message of requests is a request
abbrev pub MessageIsRequest : Type 0
MessageIsRequest =
    (max place : ℕ) (bytes rest : List ℕ) (ended : Bool) (message : Message)
    → IsFrame Requests max place bytes ended (Given message rest) → IsRequest message.head

-- a request is whole without the end of input: its bytes are that request where the input goes on as well
abbrev pub RequestIsWhole : Type 0
RequestIsWhole =
    (max place : ℕ) (bytes rest : List ℕ) (ended : Bool) (message : Message)
    → IsFrame Requests max place bytes ended (Given message rest) → IsFrame Requests max place bytes false (Given message rest)
