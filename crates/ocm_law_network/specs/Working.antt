-- How the calls of a running server came about. What a worker asks over its connections settles no message; what it settles
-- in its rounds of delivery was told due, and answered over its post. Calls and exchanges stand newest first.
use Rattle.std.specs.Prelude.{◌≡◌, ◌⊎◌, ℕ, List, [], ◌∷◌, ◌++◌, length, false, Option, Some, Ok}
use mathlib.Core.Logic.{inl, inr}
use Rattle.ocm_types.specs.declared.letters.Numbered.{Numbered}
use Rattle.ocm_entry.specs.declared.asks.Ask.TheVariants as asks
use Rattle.ocm_entry.specs.declared.entries.Entry.{Entry}
use Rattle.ocm_entry.specs.declared.replies.Reply.{Reply}
use Rattle.ocm_http.specs.Frames.{Given}
use Rattle.ocm_http.specs.declared.messages.Message.{Message}
use Rattle.ocm_pump.specs.Delivery.{Delivers, Discovers, document_request, first_place, post_request, second_place, site_by}
use Rattle.ocm_pump.specs.Replies.{IsReply}
use Rattle.ocm_pump.specs.declared.deliveries.Answered.{Answered}
use Rattle.ocm_pump.specs.declared.exchanges.Exchange.{Exchange}
use Rattle.ocm_pump.specs.declared.sites.Site.{Site}
use Rattle.ocm_dav.specs.declared.configs.Config.{Config}
use Rattle.ocm_server_connections.specs.Sides.{Sides}
use Rattle.ocm_server_rounds.specs.Rounds.{messages_of, settlement}
use Rattle.ocm_server.specs.Objects.{Past, Shares, Shift}
use Rattle.ocm_server.specs.Visits.{Work}
use Rattle.ocm_turn.specs.Calls.{call, entries, entry}
use Rattle.ocm_turn.specs.Passes.{Gate, Known}
use Rattle.ocm_turn.specs.declared.view.Call.{Call}
use Rattle.rand_chacha.specs.ChaCha.{ChaCha}
use Rattle.ocm_law_world.specs.World.{is_settlement}
use Rattle.ocm_law_network.specs.Network.{Has, IsTold}

-- ---- one exchange

-- a letter was posted to a site that was found for its target, and what came back told this
pub record IsPosted (message : Numbered) (answered : Answered) (added : List Exchange) : Type 0 where
  pub site : Site
  pub bytes : List ℕ
  pub before : List Exchange
  pub found : Discovers message.to before (Ok site)
  pub exchanged : added ≡ record { host = site.host; request = post_request site message.letter; reply = Some bytes } ∷ before
  pub told : IsTold message.letter bytes answered

-- a delivery with an answer is such a post
abbrev pub DeliveriesArePosts : Type 0
DeliveriesArePosts = (message : Numbered) (answered : Answered) (added : List Exchange) → Delivers message added (Ok answered) → IsPosted message answered added

-- a site was found in what came back of a request for the document of a host, at one of its two places
pub record IsDiscovered (host : List ℕ) (site : Site) (added : List Exchange) : Type 0 where
  pub place : List ℕ
  pub is_place : (place ≡ first_place) ⊎ (place ≡ second_place)
  pub bytes : List ℕ
  pub asked : Has added (record { host = host; request = document_request host place; reply = Some bytes })
  pub message : Message
  pub rest : List ℕ
  pub read : IsReply bytes (Given message rest)
  pub usable : site_by message.head message.body ≡ Some site

-- a search that ends by a site found it so
abbrev pub SearchesFindSites : Type 0
SearchesFindSites = (host : List ℕ) (site : Site) (added : List Exchange) → Discovers host added (Ok site) → IsDiscovered host site added

-- ---- one worker

-- a message was told due by an earlier call
pub record WasDue (before : List Entry) (message : Numbered) : Type 0 where
  pub reply : Reply
  pub asked : Has before (entry asks.Due reply)
  pub told : Has (messages_of reply) message

-- a call settles a message that was told due, by what a delivery of it answered, which made these exchanges
pub record WasDelivered (added : List Exchange) (before : List Entry) (e : Entry) : Type 0 where
  pub message : Numbered
  pub answered : Answered
  pub due : WasDue before message
  pub posted : IsPosted message answered added
  pub is : e.ask ≡ settlement message answered

-- among these exchanges stand those of such a delivery, and the calls before have older ones
pub record HasOwn (exchanges : List Exchange) (before : List Entry) (e : Entry) : Type 0 where
  pub newer : List Exchange
  pub added : List Exchange
  pub older : List Exchange
  pub split : exchanges ≡ newer ++ (added ++ older)
  pub delivered : WasDelivered added before e

-- the exchanges that are left for the calls before one
abbrev pub left_for : {before : List Entry} {e : Entry} (exchanges : List Exchange) → (is_settlement e.ask ≡ false) ⊎ HasOwn exchanges before e → List Exchange
left_for exchanges (inl plain) = exchanges
left_for exchanges (inr own) = own.older

-- each of these calls is no settlement, or settles what was delivered, by exchanges of its own
abbrev pub AreBacked : List Exchange → List Entry → Type 0
AreBacked exchanges [] = Unit {0}
AreBacked exchanges (e ∷ before) = (how : (is_settlement e.ask ≡ false) ⊎ HasOwn exchanges before e) × AreBacked (left_for exchanges how) before

-- these calls are backed by exchanges that a post made, where it tells them before and after
abbrev pub IsBackedBy : Option (List Exchange) → Option (List Exchange) → List Call → Type 0
IsBackedBy old new calls = (added : List Exchange) × AreBacked added (entries calls) × ((exchanges : List Exchange) → old ≡ Some exchanges → new ≡ Some (added ++ exchanges))

-- So are those of a worker, from its first call to its last, by its post.
abbrev pub WorkersAreBacked : (C Terms : Type 0) → Type 0
WorkersAreBacked C Terms =
    (sides : C → Sides) (config : Config) (gate : Gate) (first : Known Terms) (draw : ChaCha) (old new : Work C Terms) (calls : List Call) (past : Past)
    → Shift sides config gate first draw old new calls past → IsBackedBy old.exchanges new.exchanges calls

-- ---- all workers

-- a call of the history at a place is that of one of the workers
pub record IsWorkers (all : List (List Call)) (c : Call) : Type 0 where
  pub calls : List Call
  pub worker : Has all calls
  pub made : Has calls c

-- where workers made as many calls as a history has, each call of the history is one of theirs, at its place
abbrev pub CallsAreWorkers : Type 0
CallsAreWorkers =
    (history : List Entry) (all : List (List Call)) (own : ℕ) → Shares history all own → own ≡ length history
    → (newer older : List Entry) (e : Entry) → history ≡ newer ++ e ∷ older → IsWorkers all (call (length older) e)
