-- Several servers that send each other messages, and crash. A world knows the session of each server by the server's host,
-- the answers that are under way, and which hosts are of other programs. It begins without servers, and goes on by steps:
-- a new server, an ask, a delivery, a crash. Whatever is lost, repeated, late or out of order is a run of such steps.
use Rattle.std.specs.Prelude.{◌≡◌, ℕ, List, [], ◌∷◌, ◌++◌, Bool, true, false, ◌||◌, Option, Some, None, if◌then◌else◌}
use Rattle.ocm_entry.specs.declared.asks.Ask.{Ask}
use Rattle.ocm_entry.specs.declared.asks.Ask.TheVariants.{Settle}
use Rattle.ocm_entry.specs.declared.replies.Reply.{Reply}
use Rattle.ocm_entry.specs.declared.entries.Entry.{Entry}
use Rattle.ocm_rules.specs.declared.rows.Message.{Message}
use Rattle.ocm_rules.specs.Numbers.{same_text, at_number}
use Rattle.ocm_rules.specs.Settlements.{is_success, is_refusal}
use Rattle.ocm_rules.specs.Messages.{out}
use Rattle.ocm_rules.specs.History.{kept}
use Rattle.ocm_law_sessions.specs.Sessions.{IsReply}
use Rattle.ocm_law_sessions.specs.Crashes.{IsNext}
use Rattle.ocm_entry.specs.Deliveries.{delivered_id, delivered_status, letter_ask}

-- ---- servers

-- what a server has gone through: how many bytes an area of its journal has, the history to which the journal was opened
-- last, and the calls since then
pub record Session : Type 0 where
  pub area : ℕ
  pub base : List Entry
  pub calls : List Entry

-- a session in which nothing was asked yet
abbrev pub new_session : ℕ → Session
new_session area = record { area = area; base = []; calls = [] }

-- a session with one call more
abbrev pub with_call : Session → Ask → Reply → Session
with_call s ask reply = record { area = s.area; base = s.base; calls = record { ask = ask; reply = reply } ∷ s.calls }

-- the session after the journal was opened to this history
abbrev pub reopened : Session → List Entry → Session
reopened s base = record { area = s.area; base = base; calls = [] }

-- the history of a session, and what this host keeps of it
abbrev pub history_of : Session → List Entry
history_of s = s.calls ++ s.base

abbrev pub kept_at : List ℕ → Session → List Entry
kept_at host s = kept host (history_of s)

-- ---- worlds

-- an answer that is under way: to which host, to which of that host's messages, with which status and id
pub record Answer : Type 0 where
  pub host : List ℕ
  pub number : ℕ
  pub status : ℕ
  pub id : Option (List ℕ)

-- the answer to the message of this number of a host, which was replied so
abbrev pub answer_to : List ℕ → ℕ → Reply → Answer
answer_to host number reply = record { host = host; number = number; status = delivered_status reply; id = delivered_id reply }

-- what the host is asked when an answer comes: to settle its message
abbrev pub settlement_by : Answer → Ask
settlement_by a = Settle a.number a.status a.id

-- whether an ask may settle a message: its status says yes or no
abbrev pub is_settlement : Ask → Bool
is_settlement (Settle number status id) = is_success status || is_refusal status
is_settlement _ = false

-- which hosts are foreign, of other programs, which answer what they will; the sessions of the servers, by their hosts; and
-- the answers that are under way
pub record World : Type 0 where
  pub foreign : List ℕ → Bool
  pub session : List ℕ → Option Session
  pub answers : List Answer

-- the world without servers, where these hosts are foreign, and where none is
abbrev pub empty_among : (List ℕ → Bool) → World
empty_among foreign = record { foreign = foreign; session = λ host. None; answers = [] }

abbrev pub empty : World
empty = empty_among (λ host. false)

-- the world in which the server of this host has this session, and these answers are under way
abbrev pub changed : World → List ℕ → Session → List Answer → World
changed w host s answers = record { foreign = w.foreign; session = λ other. if same_text other host then Some s else w.session other; answers = answers }

-- the world in which this answer more is under way
abbrev pub with_answer : World → Answer → World
with_answer w a = record { foreign = w.foreign; session = w.session; answers = a ∷ w.answers }

-- ---- steps

-- What may be in flight at a host that crashes, and the answers that are under way after it: nothing; an ask that is no
-- settlement; or an answer that has come, and is under way no longer.
pub data Flight (w : World) (host : List ℕ) : Option Ask → List Answer → Type 0 where
  Nothing : Flight w host None w.answers
  Asked : (ask : Ask) → is_settlement ask ≡ false → Flight w host (Some ask) w.answers
  Answered : (newer older : List Answer) (a : Answer) → w.answers ≡ newer ++ a ∷ older → a.host ≡ host
      → Flight w host (Some (settlement_by a)) (newer ++ older)

-- What may happen next.
pub data Step (w : World) : World → Type 0 where
  -- A server begins: its host is new and not foreign, and its session empty.
  Begins : (host : List ℕ) (area : ℕ) → w.foreign host ≡ false → w.session host ≡ None → Step w (changed w host (new_session area) w.answers)
  -- Anybody asks a server anything but to settle a message, and is told what its session allows. Forged offers and
  -- notifications come so; and answers that settle nothing, as the 503 of a server whose disk failed or the 502 of a proxy.
  Asks : (host : List ℕ) (s : Session) (ask : Ask) (reply : Reply)
      → w.session host ≡ Some s → is_settlement ask ≡ false → IsReply host s.area s.base s.calls ask reply
      → Step w (changed w host (with_call s ask reply) w.answers)
  -- A message that a server sent, settled or not, is delivered: the server that it is for is asked it, with any drawn
  -- bytes, and the answer is under way.
  Delivers : (host : List ℕ) (s : Session) (number : ℕ) (message : Message) (peer : Session) (fresh : List ℕ) (reply : Reply)
      → w.session host ≡ Some s → at_number (out host (kept_at host s)) number ≡ Some message
      → w.session message.to ≡ Some peer → IsReply message.to peer.area peer.base peer.calls (letter_ask message.letter fresh) reply
      → Step w (changed w message.to (with_call peer (letter_ask message.letter fresh) reply) (answer_to host number reply ∷ w.answers))
  -- A foreign host answers a message for it with any status and id, and the answer is under way.
  Foreign : (host : List ℕ) (s : Session) (number : ℕ) (message : Message) (status : ℕ) (id : Option (List ℕ))
      → w.session host ≡ Some s → at_number (out host (kept_at host s)) number ≡ Some message → w.foreign message.to ≡ true
      → Step w (with_answer w (record { host = host; number = number; status = status; id = id }))
  -- An answer comes, at once or later: its server settles the message. An answer that never comes is lost.
  Comes : (newer older : List Answer) (a : Answer) (s : Session) (reply : Reply)
      → w.answers ≡ newer ++ a ∷ older → w.session a.host ≡ Some s → IsReply a.host s.area s.base s.calls (settlement_by a) reply
      → Step w (changed w a.host (with_call s (settlement_by a) reply) (newer ++ older))
  -- A server crashes, between two calls or within one, and opens its journal to what may follow.
  Crashes : (host : List ℕ) (s : Session) (flight : Option Ask) (answers : List Answer) (next : List Entry)
      → w.session host ≡ Some s → Flight w host flight answers → IsNext host s.base s.calls flight next
      → Step w (changed w host (reopened s next) answers)

-- from one world to another, step by step
pub data Run (first : World) : World → Type 0 where
  Stays : Run first first
  Goes_on : (w next : World) → Run first w → Step w next → Run first next

-- a world that a run from one without servers reaches
abbrev pub IsReached : World → Type 0
IsReached w = Run (empty_among w.foreign) w
