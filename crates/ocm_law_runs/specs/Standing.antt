-- What a world of servers that send each other messages has of the servers of a script, and what is said of those.
use Rattle.std.specs.Prelude.{◌≡◌, ◌⊎◌, ℕ, List, [], ◌∷◌, Bool, false, Some, codes, option_map, Result, Ok, Err, IsTrue}
use Rattle.ocm_types.specs.declared.letters.Offer.{Offer}
use Rattle.ocm_entry.specs.declared.asks.Ask.{Ask}
use Rattle.ocm_entry.specs.declared.asks.Ask.TheVariants as asks
use Rattle.ocm_entry.specs.declared.entries.Entry.{Entry}
use Rattle.ocm_entry.specs.declared.refusals.Why.TheVariants.{Unauthorized}
use Rattle.ocm_entry.specs.declared.replies.Reply.{Reply}
use Rattle.ocm_entry.specs.declared.replies.Reply.TheVariants.{NoMemory}
use Rattle.ocm_entry.specs.declared.rows.Share.{Share}
use Rattle.ocm_dav_pages.specs.declared.shapes.Page.{Page}
use Rattle.ocm_dav_pages.specs.declared.shapes.Shape.{Shape}
use Rattle.ocm_dav_pages.specs.Pages.{page_of}
use Rattle.ocm_dav.specs.declared.configs.Config.{Config}
use Rattle.ocm_dav.specs.declared.wants.Wanted.{Wanted}
use Rattle.ocm_dav.specs.declared.wants.Wanted.TheVariants as wants
use Rattle.ocm_server_connections.specs.Talk.{Shown, Talk, wanted_at}
use Rattle.ocm_server_connections.specs.Talk.Talk.{silent, last, next}
use Rattle.ocm_server_connections.specs.declared.endings.Ended.{Ended}
use Rattle.ocm_server_connections.specs.declared.endings.Missed.{Missed}
use Rattle.ocm_rules.specs.Answers.{refused}
use Rattle.ocm_rules.specs.History.{is_failure, kept}
use Rattle.ocm_rules.specs.Messages.{view_of}
use Rattle.ocm_rules.specs.Numbers.{at_number}
use Rattle.ocm_rules.specs.Shares.{is_live, made}
use Rattle.ocm_transcript.specs.Texts.{line_text}
use Rattle.ocm_script.specs.declared.events.Event.{Event}
use Rattle.ocm_script.specs.declared.events.Event.TheVariants.{Dav, Put, Carry}
use Rattle.ocm_script_run.specs.Deliveries.{Run}
use Rattle.ocm_script_run.specs.Servers.{Server, area, history, server_at}
use Rattle.ocm_script_run.specs.Talks.{IsTalk, config_of}
use Rattle.ocm_law_world.specs.Guests.{Makes}
use Rattle.ocm_law_world.specs.World.{Session, World}

-- the session of a server
abbrev pub session_of : Server → Session
session_of server = record { area = area; base = server.base; calls = server.calls }

-- for each host a world has the session of its server, where there is one
abbrev pub Stands : World → List Server → Type 0
Stands w servers = (host : List ℕ) → w.session host ≡ option_map session_of (server_at servers host)

-- what this host keeps of the history of its server
abbrev pub kept_at : List ℕ → Server → List Entry
kept_at host server = kept host (history server)

-- the share of this number is there, at the server of this host, and is not live
abbrev pub IsEnded : List Server → List ℕ → ℕ → Share → Type 0
IsEnded servers host i m =
    (server : Server) × (server_at servers host ≡ Some server)
    × (at_number (made host (kept_at host server)) i ≡ Some m) × (is_live host (kept_at host server) i ≡ false)

-- the server of an offer's owner is there, and has made what the offer says
abbrev pub IsMade : List Server → Offer → Type 0
IsMade servers offer =
    (owner : Server) × (server_at servers offer.owner.host ≡ Some owner)
    × Makes (view_of offer.owner.host (kept_at offer.owner.host owner)) offer

-- a line prints the refusal of a share that has ended, or that memory was wanting
abbrev pub IsRefused : ℕ → Run → Type 0
IsRefused number line = (line.text ≡ line_text number (codes "401 unauthorized")) ⊎ (line.text ≡ line_text number (codes "500 no memory"))

-- a line that is no `raw` asks the server of this host for files with this secret
abbrev pub UsesSecret : List ℕ → List ℕ → Event → Type 0
UsesSecret host secret (Dav h s method path) = (h ≡ host) × (s ≡ secret)
UsesSecret host secret (Put h s path body) = (h ≡ host) × (s ≡ secret)
UsesSecret host secret (Carry h s from to moving overwrite) = (h ≡ host) × (s ≡ secret)
UsesSecret host secret _ = ⊥

-- ---- requests

-- an ask for files with this secret
abbrev pub AsksWith : List ℕ → Ask → Type 0
AsksWith secret (asks.Dav s method path body) = s ≡ secret
AsksWith secret (asks.Carry s from to moving overwrite) = s ≡ secret
AsksWith secret _ = ⊥

-- each of these calls that asks for files with this secret is refused, or memory was wanting
abbrev pub AreRefused : List ℕ → List Entry → Type 0
AreRefused secret [] = Unit {0}
AreRefused secret (call ∷ older) = (AsksWith secret call.ask → (call.reply ≡ refused Unauthorized) ⊎ (call.reply ≡ NoMemory)) × AreRefused secret older

-- a page is that of the refusal, or of a reply that tells that the server could not do it
abbrev pub IsRefusal : Shape → Page → Type 0
IsRefusal shape page = (page ≡ page_of (refused Unauthorized) shape) ⊎ ((reply : Reply) × IsTrue (is_failure reply) × (page ≡ page_of reply shape))

-- a message that wants this, if it asks for files with this secret, has no other page
abbrev pub IsMessageRefused : List ℕ → Wanted → Result Page Missed → Type 0
IsMessageRefused secret (wants.Ask ask shape) (Ok page) = AsksWith secret ask → IsRefusal shape page
IsMessageRefused secret wanted answer = Unit {0}

-- so is each message of a talk
abbrev pub EachIsRefused : {config : Config} {shown : Shown} {number place : ℕ} {bytes : List ℕ} {ended : Bool} {drawn : List (List ℕ)} {clocks : List ℕ} {calls : List Entry} {written : List ℕ} {ending : Ended}
    → List ℕ → Talk config shown number place bytes ended drawn clocks calls written ending → Type 0
EachIsRefused secret (silent number place bytes ended written ending stops) = Unit {0}
EachIsRefused {config} secret (last number place bytes rest ended message fresh clock calls answer written ending is answers ends spent) = IsMessageRefused secret (wanted_at config number message fresh) answer
EachIsRefused {config} secret (next number place bytes front rest ended message fresh clock calls page drawn clocks later written ending is split answers goes_on more) =
    IsMessageRefused secret (wanted_at config number message fresh) (Ok page) × EachIsRefused secret more

-- a line `raw` to the server of this host is a talk in which each request for files with this secret is refused, by its call and by its page
abbrev pub RefusesRequests : List Server → ℕ → List ℕ → List ℕ → Type 0
RefusesRequests servers number host secret =
    (server after : Server) (fresh bytes text : List ℕ) → server_at servers host ≡ Some server
    → (line : IsTalk (config_of server.host) number fresh 0 0 bytes server after text) → AreRefused secret line.calls × EachIsRefused secret line.talk
