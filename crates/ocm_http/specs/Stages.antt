-- A message that is being read: what the bytes that are still to come mean.
use Rattle.std.specs.Prelude.{◌≡◌, ℕ, ◌+◌, ◌-◌, ◌*◌, ◌<◌, ◌≤◌, Bool, true, List, [], ◌∷◌, ◌++◌, length, take, drop, if◌then◌else◌, Option, Some, None, Ok, ⊤}
use Rattle.ocm_limits.specs.Limits.{most_head_bytes}
use Rattle.ocm_http_heads.specs.Endings.{found, moved, of_head, blanks}
use Rattle.ocm_http_heads.specs.declared.endings.Found.TheVariants as finds
use Rattle.ocm_http.specs.Places.{past}
use Rattle.ocm_http_heads.specs.declared.fields.Head as Text
use Rattle.ocm_http_heads.specs.declared.lengths.Length.{Length}
use Rattle.ocm_http_heads.specs.declared.lengths.Length.TheVariants as lengths
use Rattle.ocm_http.specs.Messages.{more_of, SaysHead}
use Rattle.ocm_http.specs.Frames.{Frame, Given, Refused, Over, Headed, Bodied, IsLine, Break as Broke, Broken, Wrong, Unbroken, break_of, unfinished, sized, to_end, trailers, Chunks, IsFrame, IsOpenLine}
use Rattle.ocm_http.specs.declared.messages.Message.{Message}
use Rattle.ocm_http.specs.declared.messages.FrameFault.{FrameFault}
use Rattle.ocm_http.specs.declared.messages.FrameFault.TheVariants.{BadChunk, ReadFault, NoMemory}
use Rattle.ocm_http.specs.declared.stages.Rules.{Rules}
use Rattle.ocm_http.specs.declared.stages.Stage.{Stage}
use Rattle.ocm_http.specs.declared.stages.Stage.TheVariants.{Head, Sized, ToEnd, Line, Data, Break, Trailers}
use Rattle.ocm_http.specs.declared.stages.Begun.{Begun}
use Rattle.ocm_http.specs.declared.stages.Begun.TheVariants.{On, All}
use Rattle.ocm_http.specs.declared.stages.Fed.{Fed}
use Rattle.ocm_http.specs.declared.stages.Fed.TheVariants.{More, Whole}

-- what follows a chunk's data, where it is this
abbrev pub Broken_by : Broke → ℕ → ℕ → Message → List ℕ → Bool → Frame → Type 0
Broken_by Unbroken max place message bytes ended frame = frame ≡ unfinished ended
Broken_by Wrong max place message bytes ended frame = frame ≡ Refused (BadChunk place)
Broken_by Broken max place message bytes ended frame = Chunks max (past place 2) message (drop 2 bytes) ended frame

-- from the end of a chunk's data on
abbrev pub AfterData : ℕ → ℕ → Message → List ℕ → Bool → Frame → Type 0
AfterData max place message bytes ended frame = Broken_by (break_of bytes) max place message bytes ended frame

-- from inside a chunk's data on, of which so many bytes are wanted
pub data InData (max place : ℕ) (message : Message) (wanted : ℕ) (bytes : List ℕ) (ended : Bool) (frame : Frame) : Type 0 where
  short : length bytes < wanted → frame ≡ unfinished ended → InData max place message wanted bytes ended frame
  full : wanted ≤ length bytes → AfterData max (past place wanted) (more_of message (take wanted bytes)) (drop wanted bytes) ended frame
      → InData max place message wanted bytes ended frame

-- a CR that was read
abbrev pub returned_bytes : Bool → List ℕ
returned_bytes returned = if returned then 13 ∷ [] else []

-- what the bytes to come are
abbrev pub Rest : Rules → Stage → List ℕ → Bool → Frame → Type 0
Rest rules (Head text look) bytes ended frame = IsFrame rules.kind rules.max rules.place (text ++ bytes) ended frame
Rest rules (Sized message wanted) bytes ended frame = frame ≡ sized message wanted bytes ended
Rest rules (ToEnd message first) bytes ended frame = frame ≡ to_end rules.max first message bytes ended
Rest rules (Line message place line) bytes ended frame = Chunks rules.max place message (line ++ bytes) ended frame
Rest rules (Data message place wanted) bytes ended frame = InData rules.max place message wanted bytes ended frame
Rest rules (Break message place returned) bytes ended frame = AfterData rules.max place message (returned_bytes returned ++ bytes) ended frame
Rest rules (Trailers message place look) bytes ended frame = frame ≡ trailers look place message bytes ended

-- what a stage keeps
abbrev pub Stands : Rules → Stage → Type 0
Stands rules (Head text look) = (found of_head text ≡ finds.Unfinished) × (moved of_head text ≡ look) × (length text + look.size ≡ most_head_bytes)
Stands rules (Sized message wanted) = (0 < wanted) × (length message.body + wanted ≤ rules.max)
Stands rules (ToEnd message first) = length message.body ≤ rules.max
Stands rules (Line message place line) = (length message.body ≤ rules.max) × IsOpenLine line
Stands rules (Data message place wanted) = (0 < wanted) × (length message.body + wanted ≤ rules.max)
Stands rules (Break message place returned) = length message.body ≤ rules.max
Stands rules (Trailers message place look) = look.size ≤ 8192

-- how many bytes a body in chunks takes at most, from a chunk line on: 259 for each byte of it, that is a line of 256,
-- the byte, CR LF; then a line and trailers
abbrev pub chunks_budget : ℕ → ℕ
chunks_budget room = 259 * room + 8448

-- how many bytes are taken at most from here on
abbrev pub budget : Rules → Stage → ℕ
budget rules (Head text look) = look.size + chunks_budget rules.max
budget rules (Sized message wanted) = wanted
budget rules (ToEnd message first) = rules.max - length message.body
budget rules (Line message place line) = chunks_budget (rules.max - length message.body) - length line
budget rules (Data message place wanted) = chunks_budget (rules.max - (length message.body + wanted)) + wanted + 2
budget rules (Break message place returned) = chunks_budget (rules.max - length message.body) + 2 - length (returned_bytes returned)
budget rules (Trailers message place look) = look.size

-- a stage that is reached by the first bytes of a piece
pub record Goes (rules : Rules) (from to : Stage) (piece : List ℕ) (n : ℕ) : Type 0 where
  pub some : 0 < n
  pub within : n ≤ length piece
  pub stands : Stands rules to
  pub spends : n + budget rules to ≤ budget rules from
  pub rest : (more : List ℕ) (ended : Bool) (frame : Frame) → Rest rules to (drop n piece ++ more) ended frame → Rest rules from (piece ++ more) ended frame

-- a message that is whole with the first bytes of a piece
pub record Makes (rules : Rules) (from : Stage) (message : Message) (piece : List ℕ) (n : ℕ) : Type 0 where
  pub some : 0 < n
  pub within : n ≤ length piece
  pub spends : n ≤ budget rules from
  pub rest : (more : List ℕ) (ended : Bool) → Rest rules from (piece ++ more) ended (Given message (drop n piece ++ more))

-- what feeding a piece came to
abbrev pub Feeds : Rules → Stage → List ℕ → Fed → Type 0
Feeds rules from piece (More to n) = Goes rules from to piece n
Feeds rules from piece (Whole message n) = Makes rules from message piece n

-- what a fault says of a piece, unless it is want of memory
pub record Faults (rules : Rules) (from : Stage) (piece : List ℕ) (fault : FrameFault) : Type 0 where
  pub of_bytes : (fault ≡ ReadFault) → ⊥
  pub rest : ((fault ≡ NoMemory) → ⊥) → (more : List ℕ) (ended : Bool) → Rest rules from (piece ++ more) ended (Refused fault)

-- what the end of input makes of a stage: a message that ends with it, or the end
abbrev pub Ends : Rules → Stage → Option Message → Type 0
Ends rules stage None = Rest rules stage [] true Over
Ends rules stage (Some message) = Rest rules stage [] true (Given message [])

-- a body that begins
abbrev pub HeadedBy : Rules → List ℕ → List ℕ → Bool → Frame → Type 0
HeadedBy rules text bytes ended frame =
    (head : Option Text.Head) × SaysHead rules.kind (drop (blanks text) text) head
    × Headed head rules.max (past rules.place (blanks text)) (past rules.place (length text)) bytes ended frame

-- what a whole head comes to
abbrev pub Begins : Rules → List ℕ → Begun → Type 0
Begins rules text (On stage) = Stands rules stage × (budget rules stage ≤ chunks_budget rules.max)
    × ((bytes : List ℕ) (ended : Bool) (frame : Frame) → Rest rules stage bytes ended frame → HeadedBy rules text bytes ended frame)
Begins rules text (All message) = (bytes : List ℕ) (ended : Bool) → HeadedBy rules text bytes ended (Given message bytes)

-- the same, of a body whose length is told
abbrev pub BeginsBody : Rules → Text.Head → Length → ℕ → ℕ → Begun → Type 0
BeginsBody rules head length first next (On stage) = Stands rules stage × (budget rules stage ≤ chunks_budget rules.max)
    × ((bytes : List ℕ) (ended : Bool) (frame : Frame) → Rest rules stage bytes ended frame → Bodied head (Ok length) rules.max first next bytes ended frame)
BeginsBody rules head length first next (All message) = (bytes : List ℕ) (ended : Bool) → Bodied head (Ok length) rules.max first next bytes ended (Given message bytes)

-- a length that is within the limit
abbrev pub IsWithin : ℕ → Length → Type 0
IsWithin max (lengths.Sized n) = n ≤ max
IsWithin max lengths.Chunked = ⊤
IsWithin max lengths.ToEnd = ⊤

-- what a whole chunk line comes to
pub record GoesFrom (rules : Rules) (place len : ℕ) (message : Message) (size : ℕ) (stage : Stage) : Type 0 where
  pub stands : Stands rules stage
  pub spends : len + budget rules stage ≤ chunks_budget (rules.max - length message.body)
  pub rest : (bytes behind : List ℕ) (ended : Bool) (frame : Frame) → IsLine bytes len size → behind ≡ drop len bytes
      → Rest rules stage behind ended frame → Chunks rules.max place message bytes ended frame
