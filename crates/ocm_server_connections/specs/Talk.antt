-- What was said on a connection.
use Rattle.std.specs.Prelude.{◌≡◌, ℕ, ◌+◌, ◌⊎◌, Bool, true, false, nat_eq, List, [], ◌∷◌, ◌++◌, length, if◌then◌else◌, Option, Some, None, Result, Ok, Err}
use Rattle.ocm_limits.specs.Limits.{last_connection_request}
use Rattle.ocm_entry.specs.declared.asks.Ask.{Ask}
use Rattle.ocm_entry.specs.declared.asks.Ask.TheVariants.{Tick}
use Rattle.ocm_entry.specs.declared.entries.Entry.{Entry}
use Rattle.ocm_entry.specs.declared.replies.Reply.{Reply}
use Rattle.ocm_entry.specs.declared.replies.Reply.TheVariants as replies
use Rattle.ocm_http_heads.specs.declared.fields.Head.{Head}
use Rattle.ocm_http_heads.specs.declared.fields.Head.TheVariants as heads
use Rattle.ocm_http.specs.Places.{past}
use Rattle.ocm_http.specs.Frames.{Given, Refused, Over}
use Rattle.ocm_http.specs.Written.{fixed}
use Rattle.ocm_http.specs.declared.messages.Message.{Message}
use Rattle.ocm_http.specs.declared.messages.FrameFault.{FrameFault}
use Rattle.ocm_http.specs.declared.messages.FrameFault.TheVariants as faults
use Rattle.ocm_http.specs.declared.writing.Fixed.TheVariants as fixed_replies
use Rattle.ocm_dav_pages.specs.declared.shapes.Page.{Page}
use Rattle.ocm_dav_pages.specs.Pages.{page_of}
use Rattle.ocm_dav.specs.declared.configs.Config.{Config}
use Rattle.ocm_dav.specs.declared.wants.Wanted.{Wanted}
use Rattle.ocm_dav.specs.declared.wants.Wanted.TheVariants as wants
use Rattle.ocm_dav.specs.Routes.{wanted_of}
use Rattle.ocm_turn.specs.Calls.{entry}
use Rattle.ocm_server_connections.specs.Sides.{IsRequests, IsFront}
use Rattle.ocm_server_connections.specs.declared.endings.Ended.{Ended}
use Rattle.ocm_server_connections.specs.declared.endings.Ended.TheVariants.{Closed, Cut, Bad, Quota, ReadFault, WriteFault, Spent, NoMemory}
use Rattle.ocm_server_connections.specs.declared.endings.Missed.{Missed}
use Rattle.ocm_server_connections.specs.declared.endings.Missed.TheVariants as misses

-- ---- one message

-- a tick with its reply
abbrev pub ticked : ℕ → Reply → Entry
ticked clock reply = entry (Tick clock) reply

abbrev pub is_done : Reply → Bool
is_done replies.Done = true
is_done _ = false

abbrev pub is_no_memory : Reply → Bool
is_no_memory replies.NoMemory = true
is_no_memory _ = false

-- an ask's reply, and the calls that it takes: a tick, and the ask where the tick is done; else the tick's reply stands for the ask's
unfoldable pub Replied : Ask → ℕ → List Entry → Reply → Type 0
Replied ask clock calls reply =
    ((calls ≡ ticked clock reply ∷ []) × (is_done reply ≡ false))
    ⊎ (calls ≡ entry ask reply ∷ ticked clock replies.Done ∷ [])

-- no reply, since the turnstile's limit was reached at the tick or at the ask
unfoldable pub Unreplied : ℕ → List Entry → Type 0
Unreplied clock calls = (calls ≡ []) ⊎ (calls ≡ ticked clock replies.Done ∷ [])

-- what a message that wants this comes to at a clock value, and the calls that it takes
unfoldable pub Answers : Wanted → ℕ → List Entry → Result Page Missed → Type 0
Answers (wants.Page page) clock calls (Ok answer) = (calls ≡ []) × (answer ≡ page)
Answers (wants.Ask ask shape) clock calls (Ok answer) =
    (reply : Reply) × Replied ask clock calls reply × (is_no_memory reply ≡ false) × (answer ≡ page_of reply shape)
Answers (wants.Page page) clock calls (Err misses.Spent) = ⊥
Answers (wants.Ask ask shape) clock calls (Err misses.Spent) = Unreplied clock calls
Answers (wants.Page page) clock calls (Err misses.NoMemory) = calls ≡ []
Answers (wants.Ask ask shape) clock calls (Err misses.NoMemory) = (calls ≡ []) ⊎ ((reply : Reply) × Replied ask clock calls reply)

-- ---- messages in a row

-- whether the connection ends with a message
abbrev pub closes : Head → Bool
closes (heads.Request method target closing fields) = closing
closes (heads.Reply status fields) = true

-- a head that asks for the end of its connection
abbrev pub closing_head : Head → Head
closing_head (heads.Request method target closing fields) = heads.Request method target true fields
closing_head (heads.Reply status fields) = heads.Reply status fields

-- the message behind 999 others is the last of its connection
abbrev pub is_last : ℕ → Bool
is_last number = nat_eq number last_connection_request

-- a message as it counts behind so many others: the last closes
unfoldable pub counted : ℕ → Message → Message
counted number message = record { head = (if is_last number then closing_head message.head else message.head); body = message.body }

-- what such a message wants
unfoldable pub wanted_at : Config → ℕ → Message → List ℕ → Wanted
wanted_at config number message fresh = wanted_of config (counted number message) fresh

-- how the connection ends with such a message's page, if it does
unfoldable pub ending_after : ℕ → Message → Option Ended
ending_after number message =
    if is_last number then Some Quota
    else if closes message.head then Some Closed
    else None

-- a piece was written in part, where the connection failed
abbrev pub Breaks : Bool → List ℕ → List ℕ → Type 0
Breaks failed piece written = (failed ≡ true) × IsFront written piece

-- a fixed reply was tried
abbrev pub Tries : Bool → List ℕ → List ℕ → Type 0
Tries failed piece written = (written ≡ piece) ⊎ Breaks failed piece written

unfoldable pub no_memory : List ℕ
no_memory = fixed fixed_replies.NoMemory

unfoldable pub bad : List ℕ
bad = fixed fixed_replies.Bad

-- the place of a fault of framing
abbrev pub place_of : FrameFault → Option ℕ
place_of (faults.BadHead place) = Some place
place_of (faults.HeadTooLong place) = Some place
place_of (faults.BadLength place) = Some place
place_of (faults.BothLengths place) = Some place
place_of (faults.BadChunk place) = Some place
place_of (faults.BodyTooLong place) = Some place
place_of _ = None

-- what ends a connection besides its bytes: its count as a source rose, that as a sink rose, the turnstile's limit is reached
pub record Shown : Type 0 where
  pub read_rose : Bool
  pub write_rose : Bool
  pub spent : Bool

-- what has to be shown for an ending
abbrev pub cause_of : Shown → Ended → Bool
cause_of shown ReadFault = shown.read_rose
cause_of shown WriteFault = shown.write_rose
cause_of shown Spent = shown.spent
cause_of shown _ = true

-- bytes that are no message end the connection so, after this was written
unfoldable pub Stops : Shown → ℕ → List ℕ → Bool → List ℕ → Ended → Type 0
Stops shown place bytes ended written Closed = (written ≡ []) × IsRequests place bytes ended Over
Stops shown place bytes ended written Cut = (written ≡ []) × IsRequests place bytes ended (Refused faults.Cut)
Stops shown place bytes ended written (Bad at) =
    (written ≡ bad) × (fault : FrameFault) × IsRequests place bytes ended (Refused fault) × (place_of fault ≡ Some at)
Stops shown place bytes ended written WriteFault =
    Breaks shown.write_rose bad written × (fault : FrameFault) × (at : ℕ) × IsRequests place bytes ended (Refused fault) × (place_of fault ≡ Some at)
Stops shown place bytes ended written ReadFault = (written ≡ []) × (shown.read_rose ≡ true)
Stops shown place bytes ended written NoMemory = Tries shown.write_rose no_memory written
Stops shown place bytes ended written Quota = ⊥
Stops shown place bytes ended written Spent = ⊥

-- a message without a page ends the connection so, after this was written
abbrev pub EndsMissed : Bool → Missed → List ℕ → Ended → Type 0
EndsMissed failed misses.Spent written ended = (ended ≡ Spent) × (written ≡ [])
EndsMissed failed misses.NoMemory written ended = (ended ≡ NoMemory) × Tries failed no_memory written

-- a message that was answered so ends the connection so, after this was written
unfoldable pub EndsWith : Bool → Option Ended → Result Page Missed → List ℕ → Ended → Type 0
EndsWith failed after (Ok page) written ended =
    ((after ≡ Some ended) × (written ≡ page.bytes)) ⊎ ((ended ≡ WriteFault) × Breaks failed page.bytes written)
EndsWith failed after (Err missed) written ended = EndsMissed failed missed written ended

-- whether a message has no page since the turnstile's limit is reached
abbrev pub is_spent : Result Page Missed → Bool
is_spent (Err misses.Spent) = true
is_spent _ = false

-- What is said on a connection after so many messages, from a place of its stream on: the bytes that were read from there, whether that is all (the input ended, or the connection rests), the drawn values, the clock's values, the calls (the newest first), what was written, and the ending.
pub data Talk (config : Config) (shown : Shown) : ℕ → ℕ → List ℕ → Bool → List (List ℕ) → List ℕ → List Entry → List ℕ → Ended → Type 0 where
  -- no message comes
  silent : (number place : ℕ) (bytes : List ℕ) (ended : Bool) (written : List ℕ) (ending : Ended)
      → Stops shown place bytes ended written ending
      → Talk config shown number place bytes ended [] [] [] written ending
  -- a message comes, and ends the connection
  last : (number place : ℕ) (bytes rest : List ℕ) (ended : Bool) (message : Message) (fresh : List ℕ) (clock : ℕ) (calls : List Entry) (answer : Result Page Missed) (written : List ℕ) (ending : Ended)
      → IsRequests place bytes ended (Given message rest)
      → Answers (wanted_at config number message fresh) clock calls answer
      → EndsWith shown.write_rose (ending_after number message) answer written ending → is_spent answer ≡ shown.spent
      → Talk config shown number place bytes ended (fresh ∷ []) (clock ∷ []) calls written ending
  -- a message comes and is answered, and then the rest
  next : (number place : ℕ) (bytes front rest : List ℕ) (ended : Bool) (message : Message) (fresh : List ℕ) (clock : ℕ) (calls : List Entry) (page : Page)
      (drawn : List (List ℕ)) (clocks : List ℕ) (later : List Entry) (written : List ℕ) (ending : Ended)
      → IsRequests place bytes ended (Given message rest) → bytes ≡ front ++ rest
      → Answers (wanted_at config number message fresh) clock calls (Ok page)
      → ending_after number message ≡ None
      → Talk config shown (number + 1) (past place (length front)) rest ended drawn clocks later written ending
      → Talk config shown number place bytes ended (fresh ∷ drawn) (clock ∷ clocks) (later ++ calls) (page.bytes ++ written) ending
