-- Parts of what is said on a connection, and what they leave.
use Rattle.std.specs.Prelude.{◌≡◌, ◌≢◌, ℕ, ◌≤◌, ◌⊎◌, Bool, false, List, [], ◌∷◌, ◌++◌, Option, Some, None, Result, Ok, Err, IsTrue}
use Rattle.rand_chacha.specs.ChaCha.{ChaCha}
use Rattle.ocm_base.specs.Outside.{Rose, Appends, Came}
use Rattle.ocm_entry.specs.declared.asks.Ask.{Ask}
use Rattle.ocm_entry.specs.declared.entries.Entry.{Entry}
use Rattle.ocm_entry.specs.declared.replies.Reply.{Reply}
use Rattle.ocm_http.specs.Readers.{ReaderState}
use Rattle.ocm_http.specs.declared.messages.Message.{Message}
use Rattle.ocm_http.specs.declared.messages.FrameFault.{FrameFault}
use Rattle.ocm_http.specs.declared.messages.FrameFault.TheVariants as faults
use Rattle.ocm_dav_pages.specs.declared.shapes.Page.{Page}
use Rattle.ocm_dav.specs.declared.configs.Config.{Config}
use Rattle.ocm_turn.specs.Passes.{Known}
use Rattle.ocm_turn.specs.declared.turnstile.Spent.{Spent}
use Rattle.ocm_server_connections.specs.declared.endings.Ended.{Ended}
use Rattle.ocm_server_connections.specs.declared.endings.Ended.TheVariants as endings
use Rattle.ocm_server_connections.specs.declared.endings.Missed.{Missed}
use Rattle.ocm_server_connections.specs.Drawing.{Draws}
use Rattle.ocm_turn.specs.Moves.{Moved, Unspent}
use Rattle.ocm_server_connections.specs.Sides.{Sides, Noted, Notes, Wrote, IsEnd, as_page, newest_of}
use Rattle.ocm_server_connections.specs.Noting.{EachAt, SaidAt, NotedBy, IsSound, noted_as}
use Rattle.ocm_server_connections.specs.Talk.{Shown, Talk, cause_of, Answers, wanted_at, ending_after, Replied, Unreplied, EndsWith, is_spent, Breaks, Tries, bad, no_memory, place_of}

-- all that serving a connection changes: the connection, the stream of drawn values, the clock's values where they are told, and the pass
pub record State (Terms : Type 0) : Type 0 where
  pub sides : Sides
  pub draw : ChaCha
  pub clock : Option (List ℕ)
  pub pass : Known Terms

abbrev pub state : {Terms : Type 0} → Sides → ChaCha → Option (List ℕ) → Known Terms → State Terms
state sides draw clock pass = record { sides = sides; draw = draw; clock = clock; pass = pass }

-- what was read, drawn, taken of the clock, called (the newest first), written, and noted of the pages
pub record Deeds : Type 0 where
  pub read : List ℕ
  pub drawn : List (List ℕ)
  pub clocks : List ℕ
  pub calls : List Entry
  pub written : List ℕ
  pub noted : List Noted

-- these deeds lead from one state to another
pub record Does {Terms : Type 0} (old new : State Terms) (deeds : Deeds) : Type 0 where
  pub read : Came old.sides.flow new.sides.flow deeds.read
  pub written : Appends old.sides.taken new.sides.taken deeds.written
  pub noted : Notes old.sides.noted new.sides.noted deeds.noted
  pub read_faults : old.sides.read_faults ≤ new.sides.read_faults
  pub write_faults : old.sides.write_faults ≤ new.sides.write_faults
  pub drawn : Draws old.draw deeds.drawn new.draw
  pub clocks : Appends old.clock new.clock deeds.clocks
  pub calls : Moved old.pass new.pass deeds.calls

-- a connection between two messages: how many were answered, the place of the next, and the bytes that were read of it
pub record Stand : Type 0 where
  pub number : ℕ
  pub place : ℕ
  pub held : List ℕ

abbrev pub stand : ℕ → ReaderState → Stand
stand number reader = record { number = number; place = reader.place; held = reader.held }

-- whatever is said from the second stand on, behind these calls and with these notes, is said with these deeds before it from the first on, whatever a pass did before the first state and does behind the second
abbrev pub Leads : {Terms : Type 0} → Config → Stand → Stand → Known Terms → Known Terms → Deeds → Type 0
Leads {Terms} config from to old new deeds =
    (first final : Known Terms) (before later : List Entry) → Moved first old before → Moved new final later
    → (shown : Shown) (more : List ℕ) (ended : Bool) (drawn : List (List ℕ)) (clocks : List ℕ) (calls : List Entry) (written : List ℕ) (noted : List Noted) (ending : Ended)
    → SaidAt (NotedBy first final) (deeds.calls ++ before) config shown to.number to.place (to.held ++ more) ended drawn clocks calls written noted ending
    → SaidAt (NotedBy first final) before config shown from.number from.place (from.held ++ (deeds.read ++ more)) ended (deeds.drawn ++ drawn) (deeds.clocks ++ clocks) (calls ++ deeds.calls) (deeds.written ++ written) (deeds.noted ++ noted) ending

-- what a connection shows between two states, at a turnstile of this limit
pub record Shows {Terms : Type 0} (limit : ℕ) (old new : State Terms) (shown : Shown) : Type 0 where
  pub read_rose : IsTrue shown.read_rose → Rose old.sides.read_faults new.sides.read_faults
  pub write_rose : IsTrue shown.write_rose → Rose old.sides.write_faults new.sides.write_faults
  pub spent : IsTrue shown.spent → limit ≤ new.pass.drawn

-- the messages between two stands were answered
pub record Went {Terms : Type 0} (config : Config) (limit : ℕ) (from to : Stand) (old new : State Terms) : Type 0 where
  pub deeds : Deeds
  pub does : Does old new deeds
  pub unspent : Unspent limit old.pass new.pass deeds.calls
  pub leads : Leads config from to old.pass new.pass deeds

-- what is said from a stand on to an ending
pub record TalkedFrom {Terms : Type 0} (config : Config) (limit : ℕ) (from : Stand) (old new : State Terms) (ending : Ended) : Type 0 where
  pub deeds : Deeds
  pub does : Does old new deeds
  pub unspent : ending ≢ endings.Spent → Unspent limit old.pass new.pass deeds.calls
  pub ended : Bool
  pub is_end : IsEnd new.sides ended
  pub shown : Shown
  pub shows : Shows limit old new shown
  pub cause : IsTrue (cause_of shown ending)
  pub told : (first : Known Terms) (before : List Entry) → Moved first old.pass before
      → SaidAt (NotedBy first new.pass) before config shown from.number from.place (from.held ++ deeds.read) ended deeds.drawn deeds.clocks deeds.calls deeds.written deeds.noted ending

-- a connection was served to an ending
pub record Talked {Terms : Type 0} (config : Config) (limit : ℕ) (old new : State Terms) (ending : Ended) : Type 0 where
  pub deeds : Deeds
  pub does : Does old new deeds
  pub unspent : ending ≢ endings.Spent → Unspent limit old.pass new.pass deeds.calls
  pub ended : Bool
  pub is_end : IsEnd new.sides ended
  pub shown : Shown
  pub shows : Shows limit old new shown
  pub cause : IsTrue (cause_of shown ending)
  pub talk : Talk config shown 0 0 deeds.read ended deeds.drawn deeds.clocks deeds.calls deeds.written ending
  pub at : EachAt (NotedBy old.pass new.pass) [] talk deeds.noted

-- one message was answered, or ended the connection
unfoldable pub Goes : {Terms : Type 0} → Config → ℕ → Stand → Stand → State Terms → State Terms → Option Ended → Type 0
Goes config limit from to old new None = Went config limit from to old new
Goes config limit from to old new (Some ending) = TalkedFrom config limit from old new ending

-- ---- parts of a message

-- a reply, or none where the turnstile's limit is reached
unfoldable pub RepliedOr : Ask → ℕ → List Entry → Result Reply Spent → Type 0
RepliedOr ask clock calls (Ok reply) = Replied ask clock calls reply
RepliedOr ask clock calls (Err spent) = Unreplied clock calls

-- something was written of which this holds, where the connection failed or not, and what was noted is this of what was written
pub record Writing (old new : Sides) (as_noted : List ℕ → List Noted) (P : Bool → List ℕ → Type 0) : Type 0 where
  pub written : List ℕ
  pub failed : Bool
  pub wrote : Wrote old new written (as_noted written)
  pub rose : IsTrue failed → Rose old.write_faults new.write_faults
  pub is : P failed written

-- what a message came to was written, a page with these moments
unfoldable pub Finishes : Sides → Sides → Result Page Missed → List ℕ → Option Ended → Option Ended → Type 0
Finishes old new answer moments after None = (page : Page) × (answer ≡ Ok page) × (after ≡ None) × Wrote old new page.bytes (as_page moments page.bytes)
Finishes old new answer moments after (Some ending) = Writing old new (noted_as answer moments) (λ failed written. EndsWith failed after answer written ending)

-- what is written where bytes are refused at a place
unfoldable pub RefusesAt : ℕ → Ended → Bool → List ℕ → Type 0
RefusesAt at ending failed written = ((ending ≡ endings.Bad at) × (written ≡ bad)) ⊎ ((ending ≡ endings.WriteFault) × Breaks failed bad written)

abbrev pub refuses_at : Option ℕ → Ended → Bool → List ℕ → Type 0
refuses_at (Some at) ending failed written = RefusesAt at ending failed written
refuses_at None ending failed written = ⊥

-- what is written where bytes are refused
unfoldable pub Refuses : FrameFault → Ended → Bool → List ℕ → Type 0
Refuses faults.Cut ending failed written = (ending ≡ endings.Cut) × (written ≡ [])
Refuses faults.ReadFault ending failed written = (ending ≡ endings.ReadFault) × (written ≡ [])
Refuses faults.NoMemory ending failed written = (ending ≡ endings.NoMemory) × Tries failed no_memory written
Refuses fault ending failed written = refuses_at (place_of fault) ending failed written

-- a message was answered, and what it came to was written
pub record Served {Terms : Type 0} (config : Config) (limit number : ℕ) (message : Message) (old new : State Terms) (result : Option Ended) : Type 0 where
  pub fresh : List ℕ
  pub now : ℕ
  pub calls : List Entry
  pub answer : Result Page Missed
  pub drawn : Draws old.draw (fresh ∷ []) new.draw
  pub clock : Appends old.clock new.clock (now ∷ [])
  pub moved : Moved old.pass new.pass calls
  pub sound : IsSound new.pass
  pub spent : IsTrue (is_spent answer) → limit ≤ new.pass.drawn
  pub unspent : is_spent answer ≡ false → Unspent limit old.pass new.pass calls
  pub answers : Answers (wanted_at config number message fresh) now calls answer
  pub finishes : Finishes old.sides new.sides answer (newest_of new.pass.moments) (ending_after number message) result
