-- What servers did since they opened their files, as the end of a log.
use Rattle.std.specs.Prelude.{◌≡◌, ◌⊎◌, ◌<◌, slice_index_or, List, [], ◌∷◌, ◌++◌, length, Bool, false, ℕ, Some, None, option_map, if◌then◌else◌, IsTrue}
use Rattle.std.specs.List.{AllByRecursion}
use Rattle.ocm_types.specs.Hosts.{is_host}
use Rattle.ocm_types.specs.declared.letters.Numbered.{Numbered}
use Rattle.ocm_entry.specs.declared.asks.Ask.TheVariants as asks
use Rattle.ocm_entry.specs.declared.entries.Entry.{Entry}
use Rattle.ocm_entry.specs.declared.replies.Reply.{Reply}
use Rattle.ocm_pump.specs.declared.exchanges.Exchange.{Exchange}
use Rattle.ocm_server_rounds.specs.Rounds.{messages_of}
use Rattle.ocm_server.specs.Objects.{Past, Shares, Shift}
use Rattle.ocm_server.specs.Visits.{Work}
use Rattle.ocm_server_connections.specs.Sides.{Sides}
use Rattle.ocm_dav.specs.declared.configs.Config.{Config}
use Rattle.ocm_turn.specs.Calls.{entries, entry}
use Rattle.ocm_turn.specs.Passes.{Gate, Known}
use Rattle.ocm_turn.specs.declared.view.Call.{Call}
use Rattle.rand_chacha.specs.ChaCha.{ChaCha}
use Rattle.ocm_rules.specs.Numbers.{same_text}
use Rattle.ocm_law_sessions.specs.Crashes.{IsNext}
use Rattle.ocm_law_sessions.specs.Sessions.{IsSession}
use Rattle.ocm_law_world.specs.World.{Session, is_settlement, reopened}
use Rattle.ocm_law_posts.specs.Letters.{IsLetter}
use Rattle.ocm_law_network.specs.Network.{Event, Has, IsLog, session_of}
use Rattle.ocm_law_network.specs.Working.{AreBacked, WasDelivered}

-- ---- what a history settles

-- a call is no settlement, or settles what an earlier one told due, by what was answered over some post
abbrev pub IsAnswered : List Entry → Entry → Type 0
IsAnswered before e = (is_settlement e.ask ≡ false) ⊎ ((added : List Exchange) × WasDelivered added before e)

-- so is each call of a history
abbrev pub SettlesAnswers : List Entry → Type 0
SettlesAnswers [] = Unit {0}
SettlesAnswers (e ∷ before) = IsAnswered before e × SettlesAnswers before

-- So it is of the one history of all workers, where they made as many calls as it has, and the calls of each are backed by
-- what its post tells.
abbrev pub HistoriesSettleAnswers : Type 0
HistoriesSettleAnswers =
    (history : List Entry) (all : List (List Call)) (own : ℕ) → Shares history all own → own ≡ length history
    → AllByRecursion (λ calls. (exchanges : List Exchange) × AreBacked exchanges (entries calls)) all → SettlesAnswers history

-- what `serve` tells of each of so many workers: its shift, with the calls at its place
abbrev pub AreShifts : {C Terms : Type 0} → (C → Sides) → Config → Gate → Known Terms → ℕ → (ℕ → ChaCha) → (old new : ℕ → Work C Terms) → Past → List (List Call) → Type 0
AreShifts sides config gate first workers draws old new past all =
    (length all ≡ workers) × ((i : ℕ) → i < workers → Shift sides config gate first (draws i) (old i) (new i) (slice_index_or all i []) past)

-- So where the workers made as many calls as there are in all, the one history settles what was answered.
abbrev pub ShiftsSettleAnswers : (C Terms : Type 0) → Type 0
ShiftsSettleAnswers C Terms =
    (sides : C → Sides) (config : Config) (gate : Gate) (first : Known Terms) (workers : ℕ) (draws : ℕ → ChaCha) (old new : ℕ → Work C Terms) (past : Past) (all : List (List Call)) (history : List Entry) (own : ℕ)
    → AreShifts sides config gate first workers draws old new past all → Shares history all own → own ≡ length history → SettlesAnswers history

-- the messages that a history told due are values of their types
abbrev pub AreValues : List Entry → Type 0
AreValues history = (reply : Reply) (m : Numbered) → Has history (entry asks.Due reply) → Has (messages_of reply) m → IsLetter m.letter × IsTrue (is_host m.to)

-- ---- logs that go on

-- a log goes on to another, of which this holds
abbrev pub GoesOnTo : (List ℕ → Bool) → List Event → (List Event → Type 0) → Type 0
GoesOnTo foreign log P = (more : List Event) × IsLog foreign (more ++ log) × P (more ++ log)

-- of the calls of several servers, each with its host, those at one host
abbrev pub calls_at : List ℕ → List (List ℕ × Entry) → List Entry
calls_at host [] = []
calls_at host (one ∷ before) = if same_text host one.0 then one.1 ∷ calls_at host before else calls_at host before

-- a session with these calls more
abbrev pub with_calls : Session → List Entry → Session
with_calls s calls = record { area = s.area; base = s.base; calls = calls ++ s.calls }

-- the session of a server goes on by these calls
pub record GoesOnBy (log : List Event) (host : List ℕ) (calls : List Entry) : Type 0 where
  pub session : Session
  pub there : session_of log host ≡ Some session
  pub lawful : IsSession host session.area session.base (calls ++ session.calls)
  pub settles : SettlesAnswers (calls ++ session.calls)
  pub values : AreValues (calls ++ session.calls)

-- Several servers that run beside each other: in whichever order they make their calls, a log goes on by these, and by a post
-- and what came back of it before each settlement.
abbrev pub ServersGoOn : Type 0
ServersGoOn =
    (foreign : List ℕ → Bool) (log : List Event) (calls : List (List ℕ × Entry))
    → IsLog foreign log → ((host : List ℕ) → (calls_at host calls ≡ []) ⊎ GoesOnBy log host (calls_at host calls))
    → GoesOnTo foreign log (λ later. (host : List ℕ) → session_of later host ≡ option_map (λ s. with_calls s (calls_at host calls)) (session_of log host))

-- ---- files that are opened again

-- a list may follow a beginning of these calls: all of them while no ask is in flight, or those before one that is
abbrev pub MayFollow : List ℕ → List Entry → List Entry → List Entry → Type 0
MayFollow host base [] next = IsNext host base [] None next
MayFollow host base (e ∷ before) next = IsNext host base before (Some e.ask) next ⊎ MayFollow host base before next

-- A log in which a server has just opened its file goes on by its calls, and to the next opening of its file, where that opens
-- to what may follow them.
abbrev pub ServersOpenAgain : Type 0
ServersOpenAgain =
    (foreign : List ℕ → Bool) (log : List Event) (host : List ℕ) (s : Session) (history next : List Entry)
    → IsLog foreign log → session_of log host ≡ Some s → s.calls ≡ [] → IsSession host s.area s.base history → SettlesAnswers history → AreValues history → IsNext host s.base history None next
    → GoesOnTo foreign log (λ later. session_of later host ≡ Some (reopened s next))

-- Where the server was killed, it goes on by a beginning of its calls, a crash with the next one in flight or none, and the
-- opening.
abbrev pub KilledServersOpenAgain : Type 0
KilledServersOpenAgain =
    (foreign : List ℕ → Bool) (log : List Event) (host : List ℕ) (s : Session) (history next : List Entry)
    → IsLog foreign log → session_of log host ≡ Some s → s.calls ≡ [] → IsSession host s.area s.base history → SettlesAnswers history → AreValues history → MayFollow host s.base history next
    → GoesOnTo foreign log (λ later. session_of later host ≡ Some (reopened s next))
