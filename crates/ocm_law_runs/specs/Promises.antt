-- What is promised of a script: of its servers, of each line that asks for files, of guests, and of what has ended.
use Rattle.std.specs.Prelude.{◌≡◌, ◌+◌, ℕ, List, [], ◌∷◌, ◌++◌, length, Some}
use Rattle.ocm_types.specs.declared.letters.Offer.{Offer}
use Rattle.ocm_types.specs.declared.phases.Phase.TheVariants.{Confirmed}
use Rattle.ocm_entry.specs.declared.entries.Entry.{Entry}
use Rattle.ocm_entry.specs.declared.replies.Reply.{Reply}
use Rattle.ocm_entry.specs.declared.rows.Share.{Share}
use Rattle.ocm_rules.specs.Messages.{phase}
use Rattle.ocm_rules.specs.Numbers.{at_number}
use Rattle.ocm_rules.specs.Offers.{offers}
use Rattle.ocm_transcript.specs.Texts.{reply_lines}
use Rattle.ocm_script.specs.Events.{host_of}
use Rattle.ocm_script.specs.declared.events.Event.{Event}
use Rattle.ocm_script.specs.declared.events.Event.TheVariants.{Raw}
use Rattle.ocm_script_run.specs.Asked.{ask_of, shows_digits}
use Rattle.ocm_script_run.specs.Deliveries.{Run}
use Rattle.ocm_script_run.specs.Servers.{Server, area, server_at}
use Rattle.ocm_script_run.specs.Talks.{IsTalk, config_of}
use Rattle.ocm_script_run.specs.Transcript.{IsRun, Transcript}
use Rattle.ocm_law_served.specs.Requests.{FileRequest, ask_with}
use Rattle.ocm_law_served.specs.Served.{IsAnsweredSo}
use Rattle.ocm_law_openings.specs.Openings.{GoOn, Period}
use Rattle.ocm_law_openings.specs.Keeping.{Keeps}
use Rattle.ocm_law_openings.specs.Worlds.{IsLife}
use Rattle.ocm_law_runs.specs.Standing.{IsEnded, IsMade, IsRefused, RefusesRequests, UsesSecret, kept_at, session_of}

-- each server, which went through some sessions from an empty file on, keeps what is promised of one
abbrev pub ServersKeep : List Server → Type 0
ServersKeep final =
    (host : List ℕ) (server : Server) → server_at final host ≡ Some server
    → (p : Period) × (older : List Period) × IsLife host (session_of server) (p ∷ older) × Keeps host p older

-- A place between lines, from these servers and this line's number on: the lines before it lead to some servers, from which
-- those behind it go on.
pub record Between (first : List Server) (number : ℕ) (before after : List Event) (text : List ℕ) (final : List Server) : Type 0 where
  pub servers : List Server
  pub front : List ℕ
  pub rest : List ℕ
  pub leads : Transcript first number before front servers
  pub goes_on : Transcript servers (number + length before) after rest final
  pub split : text ≡ front ++ rest

-- What a server had gone through before some lines has gone on behind them, whatever crashed there: all its calls and those
-- before stand where they stood.
abbrev pub ServersLast : List Event → List ℕ → List Server → Type 0
ServersLast events text final =
    (before after : List Event) → events ≡ before ++ after
    → (place : Between [] 1 before after text final) × ((host : List ℕ) (server : Server) (ps : List Period) → server_at place.servers host ≡ Some server → IsLife host (session_of server) ps
    → (later : Server) × (server_at final host ≡ Some later) × (p : Period) × (older : List Period) × IsLife host (session_of later) (p ∷ older) × GoOn ps (p ∷ older) × Keeps host p older)

-- a line at its place
pub record AtLine (first : List Server) (number : ℕ) (before : List Event) (e : Event) (after : List Event) (text : List ℕ) (final : List Server) : Type 0 where
  pub servers : List Server
  pub line : Run
  pub front : List ℕ
  pub rest : List ℕ
  pub leads : Transcript first number before front servers
  pub is : IsRun servers (number + length before) e line
  pub goes_on : Transcript line.world (number + length before + 1) after rest final
  pub split : text ≡ front ++ (line.text ++ rest)

-- a line prints the reply of the server of this host to a request for files, which is answered as the links of its secret say
abbrev pub PrintsServed : List Server → ℕ → Event → Run → List ℕ → List ℕ → FileRequest → Type 0
PrintsServed servers number e line host secret request =
    (server : Server) → server_at servers host ≡ Some server
    → (reply : Reply) × IsAnsweredSo host area server.base server.calls secret request reply × (line.text ≡ reply_lines number (shows_digits e) reply)

-- each line of a script that asks for files prints that
abbrev pub LinesAreServed : List Event → List ℕ → List Server → Type 0
LinesAreServed events text final =
    (before after : List Event) (e : Event) (host secret : List ℕ) (request : FileRequest)
    → events ≡ before ++ e ∷ after → host_of e ≡ Some host → ask_of e ≡ Some (ask_with secret request)
    → (at : AtLine [] 1 before e after text final) × PrintsServed at.servers (1 + length before) e at.line host secret request

-- each of these calls after those of a server that asks for files is answered as the links of its secret say
abbrev pub AreServed : List ℕ → Server → List Entry → Type 0
AreServed host server calls =
    (later before : List Entry) (secret : List ℕ) (request : FileRequest) (reply : Reply) → calls ≡ later ++ record { ask = ask_with secret request; reply = reply } ∷ before
    → IsAnsweredSo host area server.base (before ++ server.calls) secret request reply

-- A line is a connection to the server of this host, where there is one: a talk of that server, whose pages are those of its
-- calls; and each call that asks for files is answered so.
abbrev pub TalksServed : List Server → ℕ → List ℕ → List ℕ → List ℕ → Run → Type 0
TalksServed servers number host fresh bytes line =
    (server : Server) → server_at servers host ≡ Some server
    → (after : Server) × (talk : IsTalk (config_of server.host) number fresh 0 0 bytes server after line.text) × (server_at line.world host ≡ Some after) × AreServed host server talk.calls

-- so it is of each line `raw` of a script
abbrev pub ConnectionsAreServed : List Event → List ℕ → List Server → Type 0
ConnectionsAreServed events text final =
    (before after : List Event) (host fresh bytes : List ℕ) → events ≡ before ++ Raw host fresh bytes ∷ after
    → (at : AtLine [] 1 before (Raw host fresh bytes) after text final) × TalksServed at.servers (1 + length before) host fresh bytes at.line

-- each confirmed share was made by its owner's server of the script, with no less permission
abbrev pub GuestsKeep : List Server → Type 0
GuestsKeep final =
    (host : List ℕ) (server : Server) (n : ℕ) (offer : Offer) → server_at final host ≡ Some server
    → at_number (offers (kept_at host server)) n ≡ Some offer → phase host (kept_at host server) n ≡ Confirmed → IsMade final offer

-- What has ended before some lines has ended behind them, and is refused to each of them that uses its secret: to a line of
-- its own, and to each request of a line `raw`.
abbrev pub EndsLast : List Event → List ℕ → List Server → Type 0
EndsLast events text final =
    (before after : List Event) → events ≡ before ++ after
    → (place : Between [] 1 before after text final) × ((host : List ℕ) (i : ℕ) (m : Share) → IsEnded place.servers host i m
    → IsEnded final host i m × ((between behind : List Event) (e : Event) → after ≡ between ++ e ∷ behind
    → (at : AtLine place.servers (1 + length before) between e behind place.rest final)
    × (UsesSecret host m.secret e → IsRefused (1 + length before + length between) at.line)
    × RefusesRequests at.servers (1 + length before + length between) host m.secret))

-- A script with this text, which left these servers, keeps what is promised of it.
pub record Promised (events : List Event) (text : List ℕ) (final : List Server) : Type 0 where
  -- each server has one legal history that outlives every crash, serves requests for files exactly where every link of the
  -- secret is open and grants them, and takes repeats once
  pub servers : ServersKeep final
  -- what they went through goes on from line to line
  pub lasts : ServersLast events text final
  pub lines : LinesAreServed events text final
  pub connections : ConnectionsAreServed events text final
  pub guests : GuestsKeep final
  pub ends : EndsLast events text final
