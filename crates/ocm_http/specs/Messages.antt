-- What a message's head makes of its body, and the faults of framing.
use Rattle.std.specs.Prelude.{ℕ, List, ◌++◌, Option, Result}
use Rattle.ocm_http_heads.specs.Heads.{SaysRequest, SaysReply}
use Rattle.ocm_http_heads.specs.Lengths.{request_length, reply_length}
use Rattle.ocm_http_heads.specs.declared.fields.Head.{Head}
use Rattle.ocm_http_heads.specs.declared.fields.Head.TheVariants.{Request, Reply}
use Rattle.ocm_http_heads.specs.declared.lengths.Length.{Length}
use Rattle.ocm_http_heads.specs.declared.lengths.LengthFault.{LengthFault}
use Rattle.ocm_http_heads.specs.declared.lengths.LengthFault.TheVariants as lengths
use Rattle.ocm_http.specs.declared.messages.Kind.{Kind}
use Rattle.ocm_http.specs.declared.messages.Kind.TheVariants.{Requests, Replies}
use Rattle.ocm_http.specs.declared.messages.Message.{Message}
use Rattle.ocm_http.specs.declared.messages.FrameFault.{FrameFault}
use Rattle.ocm_http.specs.declared.messages.FrameFault.TheVariants.{BothLengths, BadLength, BodyTooLong}

-- what the text of a head says
abbrev pub SaysHead : Kind → List ℕ → Option Head → Type 0
SaysHead Requests text head = SaysRequest text head
SaysHead Replies text head = SaysReply text head

-- the length of the body that a head tells, at most max
abbrev pub length_of : ℕ → Head → Result Length LengthFault
length_of max (Request method target closing fields) = request_length max fields
length_of max (Reply status fields) = reply_length max status fields

-- a fault of a head's length, at the head's place
abbrev pub length_fault : LengthFault → ℕ → FrameFault
length_fault lengths.BothLengths place = BothLengths place
length_fault lengths.BadLength place = BadLength place
length_fault lengths.BodyTooLong place = BodyTooLong place

-- a message with more of its body
abbrev pub more_of : Message → List ℕ → Message
more_of message bytes = record { head = message.head; body = message.body ++ bytes }

-- whether a message is a request
abbrev pub IsRequest : Head → Type 0
IsRequest (Request method target closing fields) = Unit {0}
IsRequest (Reply status fields) = ⊥
