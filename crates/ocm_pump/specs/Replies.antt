-- The reply in the bytes that came back, and what a reader of it gives.
use Rattle.std.specs.Prelude.{◌≡◌, ℕ, true, List, Some, None, Result, Ok, Err}
use Rattle.ocm_limits.specs.Limits.{most_reply_bytes}
use Rattle.ocm_http.specs.Frames.{Frame, Given, Refused, Awaited, Over, IsFrame}
use Rattle.ocm_http.specs.declared.messages.Kind.TheVariants.{Replies}
use Rattle.ocm_http.specs.declared.messages.Message.{Message}
use Rattle.ocm_http.specs.declared.messages.FrameFault.{FrameFault}
use Rattle.ocm_http.specs.declared.messages.FrameFault.TheVariants as frames
use Rattle.ocm_pump.specs.Exchanges.{exchanged, IsOneAtMost}
use Rattle.ocm_pump.specs.declared.exchanges.Exchange.{Exchange}
use Rattle.ocm_pump.specs.declared.faults.PumpFault.{PumpFault}
use Rattle.ocm_pump.specs.declared.faults.PumpFault.TheVariants.{DialFault, BadReply, NoMemory}

-- what the bytes are that came back until the peer closed
abbrev pub IsReply : List ℕ → Frame → Type 0
IsReply bytes frame = IsFrame Replies most_reply_bytes 0 bytes true frame

-- a fault of the bytes, with its place; a reply that is cut counts as faulty at its front. No bytes have the last two
abbrev pub fault_of : FrameFault → PumpFault
fault_of (frames.BadHead place) = BadReply place
fault_of (frames.HeadTooLong place) = BadReply place
fault_of (frames.BadLength place) = BadReply place
fault_of (frames.BothLengths place) = BadReply place
fault_of (frames.BadChunk place) = BadReply place
fault_of (frames.BodyTooLong place) = BadReply place
fault_of frames.Cut = BadReply 0
fault_of frames.ReadFault = BadReply 0
fault_of frames.NoMemory = NoMemory

-- the reply, or the place where the bytes are none: their front where they are empty, CR and LF alone, or cut
abbrev pub reply_in : Frame → Result Message PumpFault
reply_in (Given message rest) = Ok message
reply_in (Refused fault) = Err (fault_of fault)
reply_in Awaited = Err (BadReply 0)
reply_in Over = Err (BadReply 0)

-- what was read of the bytes; want of memory may come at any
pub data Reads (bytes : List ℕ) (result : Result Message PumpFault) : Type 0 where
  whole : (frame : Frame) → IsReply bytes frame → result ≡ reply_in frame → Reads bytes result
  wanting : result ≡ Err NoMemory → Reads bytes result

-- a request that is sent to a host: the one exchange, and what is read of the bytes that came back
pub data Sends (host request : List ℕ) (added : List Exchange) (result : Result Message PumpFault) : Type 0 where
  answered : (bytes : List ℕ) → added ≡ exchanged host request (Some bytes) → Reads bytes result → Sends host request added result
  failed : added ≡ exchanged host request None → result ≡ Err DialFault → Sends host request added result
  short : IsOneAtMost host request added → result ≡ Err NoMemory → Sends host request added result

-- what was answered is what is given; want of memory may come in its place
abbrev pub Gives : {A : Type 0} → Result A PumpFault → Result A PumpFault → Type 0
Gives (Ok x) given = given ≡ Ok x
Gives (Err NoMemory) given = Unit {0}
Gives (Err fault) given = given ≡ Err fault
