-- Servers of this program that run beside each other, other hosts among them, and what goes between them: one log of what
-- happened, the newest first. What each server does in it is what is proved of a running server. What comes back of a post
-- is up to the network; what the laws need of that is their premise.
use Rattle.std.specs.Prelude.{◌≡◌, ◌⊎◌, ℕ, nat_eq, List, [], ◌∷◌, ◌++◌, Bool, false, ◌||◌, if◌then◌else◌, Option, Some, None, option_map, Ok, IsTrue}
use Rattle.ocm_limits.specs.Limits.{most_body_bytes}
use Rattle.ocm_types.specs.Hosts.{is_host}
use Rattle.ocm_types.specs.declared.letters.Letter.{Letter}
use Rattle.ocm_entry.specs.declared.asks.Ask.{Ask}
use Rattle.ocm_entry.specs.declared.asks.Ask.TheVariants.{Settle}
use Rattle.ocm_entry.specs.declared.entries.Entry.{Entry}
use Rattle.ocm_http.specs.Frames.{Given, IsFrame}
use Rattle.ocm_http.specs.declared.messages.Kind.TheVariants.{Requests}
use Rattle.ocm_http.specs.declared.messages.Message as http
use Rattle.ocm_dav.specs.declared.configs.Config.{Config}
use Rattle.ocm_pump.specs.Delivery.{answer_in, post_request}
use Rattle.ocm_pump.specs.Replies.{IsReply}
use Rattle.ocm_pump.specs.declared.deliveries.Answered.{Answered}
use Rattle.ocm_pump.specs.declared.sites.Site.{Site}
use Rattle.ocm_rules.specs.declared.rows.Message.{Message}
use Rattle.ocm_rules.specs.Messages.{out}
use Rattle.ocm_rules.specs.Numbers.{at_number, same_text}
use Rattle.ocm_rules.specs.Settlements.{is_success, is_refusal}
use Rattle.ocm_law_sessions.specs.Sessions.{IsReply as IsSessionReply}
use Rattle.ocm_law_sessions.specs.Crashes.{IsNext}
use Rattle.ocm_entry.specs.Deliveries.{delivered_id, delivered_status}
use Rattle.ocm_law_world.specs.World.{Answer, Session, World, is_settlement, kept_at, new_session, reopened, with_call}
use Rattle.ocm_law_posts.specs.Documents.{own_site}
use Rattle.ocm_law_posts.specs.Letters.{IsLetter}
use Rattle.ocm_law_posts.specs.Posts.{Asks}

-- ---- what happens

-- a letter that was posted: whose, which of that host's messages, and the site that it went to
pub record Post : Type 0 where
  pub host : List ℕ
  pub number : ℕ
  pub message : Message
  pub site : Site

-- what is in flight at a server that crashes: nothing, an ask that is no settlement, or the settlement by what came back on
-- the connection of this number
pub data InFlight : Type 0 where
  Nothing : InFlight
  Asked : Ask → InFlight
  Settling : ℕ → Ask → InFlight

pub data Event : Type 0 where
  -- a server of this host begins, with an empty file, whose areas have so many bytes
  Begins : List ℕ → ℕ → Event
  -- the server of this host is asked anything but to settle a message, and replies; with the number of the connection, where
  -- it is asked on one of a post
  Called : List ℕ → Option ℕ → Entry → Event
  -- a server posts a letter, on a connection of its own
  Posted : Post → Event
  -- these bytes came back on the connection of this number, until the peer closed it
  Returned : ℕ → List ℕ → Event
  -- the server of this host settles a message by what came back on the connection of this number, and replies
  Settled : List ℕ → ℕ → Entry → Event
  -- the server of this host crashes, with this in flight, and opens its file to this history
  Crashed : List ℕ → InFlight → List Entry → Event

-- ---- what is read of a log

-- something stands in a list
abbrev pub Has : {X : Type 0} → List X → X → Type 0
Has [] x = ⊥
Has (first ∷ others) x = (first ≡ x) ⊎ Has others x

-- something holds of each event of a log, with those before it
abbrev pub Along : (List Event → Event → Type 0) → List Event → Type 0
Along P [] = Unit {0}
Along P (event ∷ log) = P log event × Along P log

-- the posts, the oldest first: each has a connection of its own, and connections are numbered by their posts, from 1
abbrev pub posts : List Event → List Post
posts [] = []
posts (Begins host area ∷ log) = posts log
posts (Called host on call ∷ log) = posts log
posts (Posted post ∷ log) = posts log ++ post ∷ []
posts (Returned connection bytes ∷ log) = posts log
posts (Settled host connection call ∷ log) = posts log
posts (Crashed host flight next ∷ log) = posts log

-- whether what is in flight settles by this connection
abbrev pub is_settling_by : ℕ → InFlight → Bool
is_settling_by connection Nothing = false
is_settling_by connection (Asked ask) = false
is_settling_by connection (Settling other ask) = nat_eq connection other

-- whether a message was settled by what came back on this connection, or was about to be when its server crashed
abbrev pub is_used : ℕ → List Event → Bool
is_used connection [] = false
is_used connection (Begins host area ∷ log) = is_used connection log
is_used connection (Called host on call ∷ log) = is_used connection log
is_used connection (Posted post ∷ log) = is_used connection log
is_used connection (Returned other bytes ∷ log) = is_used connection log
is_used connection (Settled host other call ∷ log) = nat_eq connection other || is_used connection log
is_used connection (Crashed host flight next ∷ log) = is_settling_by connection flight || is_used connection log

-- the session of the server of a host, where there is one
abbrev pub session_of : List Event → List ℕ → Option Session
session_of [] host = None
session_of (Begins at area ∷ log) host = if same_text host at then Some (new_session area) else session_of log host
session_of (Called at on call ∷ log) host = if same_text host at then option_map (λ s. with_call s call.ask call.reply) (session_of log at) else session_of log host
session_of (Posted post ∷ log) host = session_of log host
session_of (Returned connection bytes ∷ log) host = session_of log host
session_of (Settled at connection call ∷ log) host = if same_text host at then option_map (λ s. with_call s call.ask call.reply) (session_of log at) else session_of log host
session_of (Crashed at flight next ∷ log) host = if same_text host at then option_map (λ s. reopened s next) (session_of log at) else session_of log host

-- the world of these sessions, where these hosts are foreign, and these answers are under way
abbrev pub world_of : (List ℕ → Bool) → List Event → List Answer → World
world_of foreign log answers = record { foreign = foreign; session = λ host. session_of log host; answers = answers }

-- ---- what servers do

-- the server of a host is there, and replies to an ask what its session allows
pub record Replies (log : List Event) (host : List ℕ) (call : Entry) : Type 0 where
  pub session : Session
  pub there : session_of log host ≡ Some session
  pub told : IsSessionReply host session.area session.base session.calls call.ask call.reply

-- the first message of a connection's bytes asks a server this, as a POST that closes
pub record FirstAsks (config : Config) (bytes fresh : List ℕ) (ask : Ask) : Type 0 where
  pub message : http.Message
  pub rest : List ℕ
  pub ended : Bool
  pub read : IsFrame Requests most_body_bytes 0 bytes ended (Given message rest)
  pub asks : Asks config message fresh ask

-- a call came on the connection of a post: that goes to the call's host, and its bytes ask that
pub record ComesBy (post : Post) (host : List ℕ) (call : Entry) : Type 0 where
  pub there : post.site.host ≡ host
  pub config : Config
  pub fresh : List ℕ
  pub asks : FirstAsks config (post_request post.site post.message.letter) fresh call.ask

abbrev pub IsOn : List Event → Option ℕ → List ℕ → Entry → Type 0
IsOn log None host call = Unit {0}
IsOn log (Some connection) host call = (post : Post) × (at_number (posts log) connection ≡ Some post) × ComesBy post host call

-- a server posts one of its messages, to whatever site it found
pub record Posts (log : List Event) (post : Post) : Type 0 where
  pub session : Session
  pub there : session_of log post.host ≡ Some session
  pub sent : at_number (out post.host (kept_at post.host session)) post.number ≡ Some post.message
  pub letter : IsLetter post.message.letter
  pub target : IsTrue (is_host post.message.to)

-- bytes that came back are a reply that tells the sender of a letter this
pub record IsTold (letter : Letter) (bytes : List ℕ) (answered : Answered) : Type 0 where
  pub message : http.Message
  pub rest : List ℕ
  pub read : IsReply bytes (Given message rest)
  pub told : answer_in letter (Ok message) ≡ Ok answered

-- an ask settles the message that its host posted on a connection by what came back on it, for the first time
pub record Settles (log : List Event) (host : List ℕ) (connection : ℕ) (ask : Ask) : Type 0 where
  pub post : Post
  pub posted : at_number (posts log) connection ≡ Some post
  pub own : post.host ≡ host
  pub bytes : List ℕ
  pub came : Has log (Returned connection bytes)
  pub answered : Answered
  pub told : IsTold post.message.letter bytes answered
  pub is : ask ≡ Settle post.number answered.status answered.id
  pub once : is_used connection log ≡ false

-- what may be in flight
abbrev pub MayBeInFlight : List Event → List ℕ → InFlight → Type 0
MayBeInFlight log host Nothing = Unit {0}
MayBeInFlight log host (Asked ask) = is_settlement ask ≡ false
MayBeInFlight log host (Settling connection ask) = Settles log host connection ask

abbrev pub ask_of : InFlight → Option Ask
ask_of Nothing = None
ask_of (Asked ask) = Some ask
ask_of (Settling connection ask) = Some ask

-- a server opens its file to what may follow its session
pub record Opens (log : List Event) (host : List ℕ) (flight : InFlight) (next : List Entry) : Type 0 where
  pub session : Session
  pub there : session_of log host ≡ Some session
  pub in_flight : MayBeInFlight log host flight
  pub comes : IsNext host session.base session.calls (ask_of flight) next

-- what may happen next, as far as servers of this program keep to what is proved of them
abbrev pub MayHappen : (List ℕ → Bool) → List Event → Event → Type 0
MayHappen foreign log (Begins host area) = (foreign host ≡ false) × (session_of log host ≡ None)
MayHappen foreign log (Called host on call) = Replies log host call × (is_settlement call.ask ≡ false) × IsOn log on host call
MayHappen foreign log (Posted post) = Posts log post
MayHappen foreign log (Returned connection bytes) = (post : Post) × (at_number (posts log) connection ≡ Some post)
MayHappen foreign log (Settled host connection call) = Replies log host call × Settles log host connection call.ask
MayHappen foreign log (Crashed host flight next) = Opens log host flight next

-- a log of such servers, where these hosts are foreign
abbrev pub IsLog : (List ℕ → Bool) → List Event → Type 0
IsLog foreign log = Along (MayHappen foreign) log

-- ---- the premise

-- a status that says yes or no
abbrev pub is_decisive : ℕ → Bool
is_decisive status = is_success status || is_refusal status

-- what a sender is told is what the server of this host replied on the connection
pub record IsAnswerFrom (log : List Event) (connection : ℕ) (host : List ℕ) (answered : Answered) : Type 0 where
  pub call : Entry
  pub called : Has log (Called host (Some connection) call)
  pub is : answered ≡ record { status = delivered_status call.reply; id = delivered_id call.reply }

-- A letter to a host that is not foreign goes to that host's own site. What comes back of it, and says yes or no, says what the
-- server of that host replied to it.
abbrev pub IsTheirs : (List ℕ → Bool) → List Event → Event → Type 0
IsTheirs foreign log (Begins host area) = Unit {0}
IsTheirs foreign log (Called host on call) = Unit {0}
IsTheirs foreign log (Posted post) = foreign post.message.to ≡ false → post.site ≡ own_site post.message.to
IsTheirs foreign log (Returned connection bytes) =
    (post : Post) (answered : Answered) → at_number (posts log) connection ≡ Some post → foreign post.message.to ≡ false
    → IsTold post.message.letter bytes answered → IsTrue (is_decisive answered.status) → IsAnswerFrom log connection post.message.to answered
IsTheirs foreign log (Settled host connection call) = Unit {0}
IsTheirs foreign log (Crashed host flight next) = Unit {0}

-- the replies of a host that is not foreign come from it
abbrev pub RepliesAreTheirs : (List ℕ → Bool) → List Event → Type 0
RepliesAreTheirs foreign log = Along (IsTheirs foreign) log
