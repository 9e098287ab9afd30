-- The frames of a stream: what its bytes are as messages (RFC 9112 sections 2.2, 6 and 7), within the limits.
use Rattle.std.specs.Prelude.{◌≡◌, ℕ, ◌+◌, ◌<◌, ◌≤◌, ◌⊎◌, Bool, true, false, ◌&&◌, ◌==◌, nat_eq, nat_le, nat_lt, List, [], ◌∷◌, length, take, drop, if◌then◌else◌, Option, Some, None, Result, Ok, Err}
use Rattle.httparse.specs.Grammar.{HasNoChunkLine, NeverHasChunkLine, MayBecomeChunkLine}
use Rattle.ocm_http_heads.specs.ChunkLines.{LineOf}
use Rattle.ocm_http_heads.specs.Endings.{found, blanks, of_head, of_trailers}
use Rattle.ocm_http_heads.specs.declared.endings.Look.{Look}
use Rattle.ocm_http_heads.specs.declared.endings.Found.{Found}
use Rattle.ocm_http_heads.specs.declared.endings.Found.TheVariants.{Whole, TooLong, Unfinished}
use Rattle.ocm_http_heads.specs.declared.fields.Head.{Head}
use Rattle.ocm_http_heads.specs.declared.lengths.Length.{Length}
use Rattle.ocm_http_heads.specs.declared.lengths.Length.TheVariants.{Sized, Chunked, ToEnd}
use Rattle.ocm_http_heads.specs.declared.lengths.LengthFault.{LengthFault}
use Rattle.ocm_http.specs.Places.{past}
use Rattle.ocm_http.specs.Messages.{SaysHead, length_of, length_fault, more_of}
use Rattle.ocm_http.specs.declared.messages.Kind.{Kind}
use Rattle.ocm_http.specs.declared.messages.Message.{Message}
use Rattle.ocm_http.specs.declared.messages.FrameFault.{FrameFault}
use Rattle.ocm_http.specs.declared.messages.FrameFault.TheVariants.{BadHead, HeadTooLong, BadChunk, BodyTooLong, Cut}

-- what bytes are from a message's start on
pub data Frame : Type 0 where
  -- a message, and the bytes behind it
  Given : Message → List ℕ → Frame
  -- a fault
  Refused : FrameFault → Frame
  -- not a whole message yet, and no fault
  Awaited : Frame
  -- nothing: the input ended between messages
  Over : Frame

-- a message that isn't whole: cut, where the input has ended
abbrev pub unfinished : Bool → Frame
unfinished ended = if ended then Refused Cut else Awaited

-- so many bytes more of a body (RFC 9112 section 6.2)
abbrev pub sized : Message → ℕ → List ℕ → Bool → Frame
sized message wanted bytes ended =
    if nat_le wanted (length bytes) then Given (more_of message (take wanted bytes)) (drop wanted bytes)
    else unfinished ended

-- all bytes to the end of input, at most max with those before; place is the head's (RFC 9112 section 6.3)
abbrev pub to_end : ℕ → ℕ → Message → List ℕ → Bool → Frame
to_end max place message bytes ended =
    if nat_lt max (length message.body + length bytes) then Refused (BodyTooLong place)
    else if ended then Given (more_of message bytes) []
    else Awaited

-- what ends trailers
abbrev pub trailers_end : Found → ℕ → Message → List ℕ → Bool → Frame
trailers_end (Whole n) place message bytes ended = Given message (drop n bytes)
trailers_end (TooLong bare) place message bytes ended = Refused (BadChunk place)
trailers_end Unfinished place message bytes ended = unfinished ended

-- trailers to their empty line (RFC 9112 section 7.1.2), which are passed over; place is that of their first byte
abbrev pub trailers : Look → ℕ → Message → List ℕ → Bool → Frame
trailers look place message bytes ended = trailers_end (found look bytes) place message bytes ended

-- a chunk line of at most 256 bytes stands at the front
abbrev pub IsLine : List ℕ → ℕ → ℕ → Type 0
IsLine bytes len size = LineOf bytes len size × (len ≤ length bytes) × (len ≤ 256)

-- the front is no chunk line of at most 256 bytes, and can't become one
abbrev pub IsBadLine : List ℕ → Type 0
IsBadLine bytes = NeverHasChunkLine bytes ⊎ ((256 < length bytes) × HasNoChunkLine (take 256 bytes))

-- the bytes are no chunk line yet, and may become one
abbrev pub IsOpenLine : List ℕ → Type 0
IsOpenLine bytes = (length bytes ≤ 256) × HasNoChunkLine bytes × MayBecomeChunkLine bytes

-- what stands where a chunk's data ends
pub data Break : Type 0 where
  -- CR LF
  Broken : Break
  -- something else
  Wrong : Break
  -- nothing, or CR alone
  Unbroken : Break

abbrev pub break_after_return : List ℕ → Break
break_after_return [] = Unbroken
break_after_return (b ∷ bytes) = if b == 10 then Broken else Wrong

abbrev pub break_of : List ℕ → Break
break_of [] = Unbroken
break_of (b ∷ bytes) = if b == 13 then break_after_return bytes else Wrong

-- whether a chunk of so many bytes fits the body
abbrev pub fits : ℕ → Message → ℕ → Bool
fits max message size = nat_le (length message.body + size) max

-- a body in chunks, from a chunk line on (RFC 9112 section 7.1); place is that of the line's first byte
pub data Chunks (max : ℕ) : ℕ → Message → List ℕ → Bool → Frame → Type 0 where
  -- the line is refused
  bad_line : (place : ℕ) (message : Message) (bytes : List ℕ) (ended : Bool) (frame : Frame)
      → IsBadLine bytes → frame ≡ Refused (BadChunk place) → Chunks max place message bytes ended frame
  -- the line isn't whole
  open_line : (place : ℕ) (message : Message) (bytes : List ℕ) (ended : Bool) (frame : Frame)
      → IsOpenLine bytes → frame ≡ unfinished ended → Chunks max place message bytes ended frame
  -- the chunk would pass the limit of the body
  too_large : (place : ℕ) (message : Message) (bytes : List ℕ) (ended : Bool) (frame : Frame) (len size : ℕ)
      → IsLine bytes len size → fits max message size ≡ false → frame ≡ Refused (BodyTooLong place)
      → Chunks max place message bytes ended frame
  -- the last chunk: trailers follow its line
  last : (place : ℕ) (message : Message) (bytes : List ℕ) (ended : Bool) (frame : Frame) (len : ℕ)
      → IsLine bytes len 0 → fits max message 0 ≡ true
      → frame ≡ trailers of_trailers (past place len) message (drop len bytes) ended
      → Chunks max place message bytes ended frame
  -- the chunk's data isn't whole
  open_data : (place : ℕ) (message : Message) (bytes : List ℕ) (ended : Bool) (frame : Frame) (len size : ℕ)
      → IsLine bytes len size → 0 < size → fits max message size ≡ true
      → length (drop len bytes) < size → frame ≡ unfinished ended
      → Chunks max place message bytes ended frame
  -- the data is whole, and what ends it isn't
  open_break : (place : ℕ) (message : Message) (bytes : List ℕ) (ended : Bool) (frame : Frame) (len size : ℕ)
      → IsLine bytes len size → 0 < size → fits max message size ≡ true
      → size ≤ length (drop len bytes) → break_of (drop size (drop len bytes)) ≡ Unbroken → frame ≡ unfinished ended
      → Chunks max place message bytes ended frame
  -- the data isn't followed by CR LF
  wrong_break : (place : ℕ) (message : Message) (bytes : List ℕ) (ended : Bool) (frame : Frame) (len size : ℕ)
      → IsLine bytes len size → 0 < size → fits max message size ≡ true
      → size ≤ length (drop len bytes) → break_of (drop size (drop len bytes)) ≡ Wrong
      → frame ≡ Refused (BadChunk (past (past place len) size))
      → Chunks max place message bytes ended frame
  -- a whole chunk, and what follows it
  chunk : (place : ℕ) (message : Message) (bytes : List ℕ) (ended : Bool) (frame : Frame) (len size : ℕ)
      → IsLine bytes len size → 0 < size → fits max message size ≡ true
      → size ≤ length (drop len bytes) → break_of (drop size (drop len bytes)) ≡ Broken
      → Chunks max (past (past (past place len) size) 2) (more_of message (take size (drop len bytes)))
      (drop 2 (drop size (drop len bytes))) ended frame
      → Chunks max place message bytes ended frame

-- a body of the length that the head tells; first is the head's place, next that of the body
abbrev pub Bodied : Head → Result Length LengthFault → ℕ → ℕ → ℕ → List ℕ → Bool → Frame → Type 0
Bodied head (Err fault) max first next bytes ended frame = frame ≡ Refused (length_fault fault first)
Bodied head (Ok (Sized n)) max first next bytes ended frame =
    frame ≡ sized (record { head = head; body = [] }) n bytes ended
Bodied head (Ok ToEnd) max first next bytes ended frame =
    frame ≡ to_end max first (record { head = head; body = [] }) bytes ended
Bodied head (Ok Chunked) max first next bytes ended frame =
    Chunks max next (record { head = head; body = [] }) bytes ended frame

-- a whole head, or none, and what follows it
abbrev pub Headed : Option Head → ℕ → ℕ → ℕ → List ℕ → Bool → Frame → Type 0
Headed None max first next bytes ended frame = frame ≡ Refused (BadHead first)
Headed (Some head) max first next bytes ended frame =
    Bodied head (length_of max head) max first next bytes ended frame

-- whether there are CR and LF alone
abbrev pub is_bare : List ℕ → Bool
is_bare bytes = nat_eq (blanks bytes) (length bytes)

-- bytes that have no whole head yet
abbrev pub headless : Bool → Bool → Frame
headless ended bare = if ended && bare then Over else unfinished ended

-- what follows where the head's end was looked for; place is that of the message
abbrev pub Ended : Found → Kind → ℕ → ℕ → List ℕ → Bool → Frame → Type 0
Ended Unfinished kind max place bytes ended frame = frame ≡ headless ended (is_bare bytes)
Ended (TooLong bare) kind max place bytes ended frame =
    frame ≡ Refused (HeadTooLong (if bare then past place 0 else past place (blanks bytes)))
Ended (Whole n) kind max place bytes ended frame =
    let text = take n bytes in
    (head : Option Head) × SaysHead kind (drop (blanks text) text) head
    × Headed head max (past place (blanks text)) (past place n) (drop n bytes) ended frame

-- what the bytes from a message's start on are, where that is at this place
abbrev pub IsFrame : Kind → ℕ → ℕ → List ℕ → Bool → Frame → Type 0
IsFrame kind max place bytes ended frame = Ended (found of_head bytes) kind max place bytes ended frame

-- the messages of a stream from a place on, and what it is behind them: a fault, its end, or no whole message yet
pub data Frames (kind : Kind) (max : ℕ) : ℕ → List ℕ → Bool → List Message → Frame → Type 0 where
  refused : (place : ℕ) (bytes : List ℕ) (ended : Bool) (fault : FrameFault)
      → IsFrame kind max place bytes ended (Refused fault) → Frames kind max place bytes ended [] (Refused fault)
  awaited : (place : ℕ) (bytes : List ℕ) (ended : Bool)
      → IsFrame kind max place bytes ended Awaited → Frames kind max place bytes ended [] Awaited
  over : (place : ℕ) (bytes : List ℕ) (ended : Bool)
      → IsFrame kind max place bytes ended Over → Frames kind max place bytes ended [] Over
  given : (place n : ℕ) (bytes rest : List ℕ) (ended : Bool) (message : Message) (messages : List Message) (frame : Frame)
      → IsFrame kind max place bytes ended (Given message rest) → n + length rest ≡ length bytes
      → Frames kind max (past place n) rest ended messages frame
      → Frames kind max place bytes ended (message ∷ messages) frame
