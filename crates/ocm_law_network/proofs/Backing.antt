-- The calls of a worker.
use Rattle.std.proofs.Common.{◌≡◌, ℕ, List, [], ◌∷◌, ◌++◌, Bool, true, false, refl, sym, ap, ◌∙◌, subst, append_assoc, Some, None, Result, Ok, Err}
use Rattle.std.specs.Prelude.{◌⊎◌, Option, option_map}
use mathlib.Core.Logic.{inl, inr}
use Rattle.ocm_types.specs.declared.letters.Letter.{Letter}
use Rattle.ocm_types.specs.declared.letters.Numbered.{Numbered}
use Rattle.ocm_entry.specs.declared.asks.Ask.{Ask}
use Rattle.ocm_entry.specs.declared.asks.Ask.TheVariants as asks
use Rattle.ocm_entry.specs.declared.entries.Entry.{Entry}
use Rattle.ocm_entry.specs.declared.replies.Reply.{Reply}
use Rattle.ocm_http.specs.Frames.{Frame, Given, Refused, Awaited, Over}
use Rattle.ocm_http.specs.declared.messages.Message.{Message}
use Rattle.ocm_dav_pages.specs.declared.shapes.Page.{Page}
use Rattle.ocm_dav.specs.Routes.{wanted_of}
use Rattle.ocm_dav.specs.Sound.{AsksOutside, is_requested}
use Rattle.ocm_dav.specs.declared.configs.Config.{Config}
use Rattle.ocm_dav.specs.declared.wants.Wanted.{Wanted}
use Rattle.ocm_dav.specs.declared.wants.Wanted.TheVariants as wants
use Rattle.ocm_dav.proofs.SoundWants.{sound-wanted_of}
use Rattle.ocm_pump.specs.Delivery.{Asks, Delivers, answer_in, document_request, first_place, found_at_last, post_request, second_place, site_by}
use Rattle.ocm_pump.specs.Delivery.Discovers.{at_first, stopped, at_second}
use Rattle.ocm_pump.specs.Delivery.Delivers.{undiscovered, posted}
use Rattle.ocm_pump.specs.Exchanges.{exchanged}
use Rattle.ocm_pump.specs.Replies.{IsReply, Sends, reply_in}
use Rattle.ocm_pump.specs.Replies.Reads.{whole, wanting}
use Rattle.ocm_pump.specs.Replies.Sends.{answered, failed, short}
use Rattle.ocm_pump.specs.declared.deliveries.Answered.{Answered}
use Rattle.ocm_pump.specs.declared.exchanges.Exchange.{Exchange}
use Rattle.ocm_pump.specs.declared.faults.PumpFault.{PumpFault}
use Rattle.ocm_pump.specs.declared.faults.PumpFault.TheVariants as faults
use Rattle.ocm_pump.specs.declared.sites.Site.{Site}
use Rattle.ocm_server_connections.specs.Sides.{Sides}
use Rattle.ocm_server_connections.specs.Talk.{Answers, Replied, Shown, Talk, Unreplied, counted, wanted_at}
use Rattle.ocm_server_connections.specs.Talk.Talk.{silent, last, next}
use Rattle.ocm_server_connections.specs.declared.endings.Ended.{Ended}
use Rattle.ocm_server_connections.specs.declared.endings.Missed.{Missed}
use Rattle.ocm_server_connections.specs.declared.endings.Missed.TheVariants as misses
use Rattle.ocm_server_rounds.specs.Rounds as rounds
use Rattle.ocm_server_rounds.specs.Rounds.{Deliveries, Does, Hold, Round, Tries, hold, messages_of}
use Rattle.ocm_server_rounds.specs.declared.pumped.Pumped.{Pumped}
use Rattle.ocm_server_rounds.specs.declared.pumped.RoundEnd.{RoundEnd}
use Rattle.ocm_server.specs.Visits.{Behind, Desk, Visit, Visits}
use Rattle.ocm_turn.specs.Calls.{entry}
use Rattle.ocm_turn.specs.Moves.{Moved}
use Rattle.ocm_turn.proofs.MoveLemmas.{moved_nothing, moved_then}
use Rattle.ocm_law_world.specs.World.{is_settlement}
use Rattle.ocm_law_network.specs.Network.{Has, IsTold}
use Rattle.ocm_law_network.specs.Working.{AreBacked, IsDiscovered, IsPosted, SearchesFindSites, WasDue}

-- ---- one exchange

-- a message that was read
abbrev given : Message → Result Message PumpFault
given message = Ok message

ok-same : (a b : Message) → given a ≡ given b → a ≡ b
ok-same a b e = cc

-- a message that was sent back was read of bytes that came back
of-frame : (bytes : List ℕ) (frame : Frame) (message : Message) → IsReply bytes frame → Ok message ≡ reply_in frame → (rest : List ℕ) × IsReply bytes (Given message rest)
of-frame bytes (Given first rest) message read same = (rest, subst (λ m. IsReply bytes (Given m rest)) (sym (ok-same message first same)) read)
of-frame bytes (Refused fault) message read same = absurd (cc)
of-frame bytes Awaited message read same = absurd (cc)
of-frame bytes Over message read same = absurd (cc)

came-back : (host request : List ℕ) (added : List Exchange) (message : Message) → Sends host request added (Ok message) → (bytes : List ℕ) × (added ≡ exchanged host request (Some bytes)) × (rest : List ℕ) × IsReply bytes (Given message rest)
came-back host request added message (answered bytes is (whole frame read same)) = let m = of-frame bytes frame message read same in (bytes, is, m.0, m.1)
came-back host request added message (answered bytes is (wanting none)) = absurd (cc)
came-back host request added message (failed is fault) = absurd (cc)
came-back host request added message (short is fault) = absurd (cc)

-- a post that was answered
sent-told : (site : Site) (letter : Letter) (answer : Answered) (added : List Exchange) (sent : Result Message PumpFault) → Sends site.host (post_request site letter) added sent → answer_in letter sent ≡ Ok answer
    → (bytes : List ℕ) × (added ≡ exchanged site.host (post_request site letter) (Some bytes)) × IsTold letter bytes answer
sent-told site letter answer added (Ok message) sends told =
    let came = came-back site.host (post_request site letter) added message sends in
    (came.0, came.1, record { message = message; rest = came.2; read = came.3; told = told })
sent-told site letter answer added (Err fault) sends told = absurd (cc)

pub delivery-posted : (message : Numbered) (answer : Answered) (added : List Exchange) → Delivers message added (Ok answer) → IsPosted message answer added
delivery-posted message answer added (undiscovered fault search is) = absurd (cc)
delivery-posted message answer added (posted before after site search posts is) =
    let one = sent-told site message.letter answer after posts.0 posts.1 posts.2 in
    record {
      site = site;
      bytes = one.0;
      before = before;
      found = search;
      exchanged = is ∙ ap (λ l. l ++ before) one.1;
      told = one.2;
    }

-- ---- the search for a site

-- what a search came to
abbrev searched : Option Site → Result (Option Site) PumpFault
searched found = Ok found

searched-same : (a b : Option Site) → searched a ≡ searched b → a ≡ b
searched-same a b e = cc

abbrev ended : Site → Result Site PumpFault
ended site = Ok site

ended-same : (a b : Site) → ended a ≡ ended b → a ≡ b
ended-same a b e = cc

-- a site by the document of one place
place-found : (host place : List ℕ) (added : List Exchange) (site : Site) → (place ≡ first_place) ⊎ (place ≡ second_place) → Asks host place added (Ok (Some site)) → IsDiscovered host site added
place-found host place added site is_place (Ok message, sends, usable) =
    let came = came-back host (document_request host place) added message sends in
    record {
      place = place;
      is_place = is_place;
      bytes = came.0;
      asked = subst (λ l. Has l (record { host = host; request = document_request host place; reply = Some came.0 })) (sym came.1) (inl refl);
      message = message;
      rest = came.2;
      read = came.3;
      usable = searched-same (site_by message.head message.body) (Some site) usable;
    }
place-found host place added site is_place (Err (faults.BadReply at), sends, usable) = absurd (cc)
place-found host place added site is_place (Err faults.DialFault, sends, usable) = absurd (cc)
place-found host place added site is_place (Err faults.NoDiscovery, sends, usable) = absurd (cc)
place-found host place added site is_place (Err faults.NoMemory, sends, usable) = absurd (cc)

has-front : {X : Type 0} (newer older : List X) (x : X) → Has newer x → Has (newer ++ older) x
has-front [] older x h = absurd h
has-front (first ∷ newer) older x (inl same) = inl same
has-front (first ∷ newer) older x (inr there) = inr (has-front newer older x there)

found-before : (host : List ℕ) (site : Site) (after before : List Exchange) → IsDiscovered host site after → IsDiscovered host site (after ++ before)
found-before host site after before f = record {
  place = f.place;
  is_place = f.is_place;
  bytes = f.bytes;
  asked = has-front after before (record { host = host; request = document_request host f.place; reply = Some f.bytes }) f.asked;
  message = f.message;
  rest = f.rest;
  read = f.read;
  usable = f.usable;
}

found-at-last : (host : List ℕ) (site : Site) (after : List Exchange) (found : Result (Option Site) PumpFault) → Asks host second_place after found → Ok site ≡ found_at_last found → IsDiscovered host site after
found-at-last host site after (Ok (Some other)) asks is = subst (λ s. IsDiscovered host s after) (sym (ended-same site other is)) (place-found host second_place after other (inr refl) asks)
found-at-last host site after (Ok None) asks is = absurd (cc)
found-at-last host site after (Err fault) asks is = absurd (cc)

pub search-found : SearchesFindSites
search-found host site added (at_first other asks is) = subst (λ s. IsDiscovered host s added) (sym (ended-same site other is)) (place-found host first_place added other (inl refl) asks)
search-found host site added (stopped fault asks is) = absurd (cc)
search-found host site added (at_second before after first (found, asks, is) split) =
    subst (IsDiscovered host site) (sym split) (found-before host site after before (found-at-last host site after found asks is))

-- ---- connections

-- none of these calls settles a message
abbrev ArePlain : List Entry → Type 0
ArePlain [] = Unit {0}
ArePlain (e ∷ before) = (is_settlement e.ask ≡ false) × ArePlain before

plain-append : (newer older : List Entry) → ArePlain newer → ArePlain older → ArePlain (newer ++ older)
plain-append [] older h k = k
plain-append (e ∷ newer) older h k = (h.0, plain-append newer older h.1 k)

unsettling : (ask : Ask) → is_requested ask ≡ true → is_settlement ask ≡ false
unsettling (asks.Settle number status id) outside = absurd (cc)
unsettling _ outside = refl

replied-plain : (ask : Ask) (clock : ℕ) (calls : List Entry) (reply : Reply) → is_settlement ask ≡ false → Replied ask clock calls reply → ArePlain calls
unfolding Replied
replied-plain ask clock calls reply plain (inl (is, undone)) = subst ArePlain (sym is) (refl, tt)
replied-plain ask clock calls reply plain (inr is) = subst ArePlain (sym is) (plain, (refl, tt))

unreplied-plain : (clock : ℕ) (calls : List Entry) → Unreplied clock calls → ArePlain calls
unfolding Unreplied
unreplied-plain clock calls (inl is) = subst ArePlain (sym is) tt
unreplied-plain clock calls (inr is) = subst ArePlain (sym is) (refl, tt)

answers-plain : (wanted : Wanted) (clock : ℕ) (calls : List Entry) (answer : Result Page Missed) → AsksOutside wanted → Answers wanted clock calls answer → ArePlain calls
unfolding Answers
answers-plain (wants.Page page) clock calls (Ok shown) outside (is, same) = subst ArePlain (sym is) tt
answers-plain (wants.Ask ask shape) clock calls (Ok shown) outside (reply, replied, had, same) = replied-plain ask clock calls reply (unsettling ask outside) replied
answers-plain (wants.Page page) clock calls (Err misses.Spent) outside none = absurd none
answers-plain (wants.Ask ask shape) clock calls (Err misses.Spent) outside unreplied = unreplied-plain clock calls unreplied
answers-plain (wants.Page page) clock calls (Err misses.NoMemory) outside is = subst ArePlain (sym is) tt
answers-plain (wants.Ask ask shape) clock calls (Err misses.NoMemory) outside (inl is) = subst ArePlain (sym is) tt
answers-plain (wants.Ask ask shape) clock calls (Err misses.NoMemory) outside (inr (reply, replied)) = replied-plain ask clock calls reply (unsettling ask outside) replied

message-plain : (config : Config) (number : ℕ) (message : Message) (fresh : List ℕ) (clock : ℕ) (calls : List Entry) (answer : Result Page Missed) → Answers (wanted_at config number message fresh) clock calls answer → ArePlain calls
unfolding wanted_at
message-plain config number message fresh clock calls answer answers =
    answers-plain (wanted_of config (counted number message) fresh) clock calls answer (sound-wanted_of config (counted number message) fresh).outside answers

talk-plain : (config : Config) (shown : Shown) (number place : ℕ) (bytes : List ℕ) (ended : Bool) (drawn : List (List ℕ)) (clocks : List ℕ) (calls : List Entry) (written : List ℕ) (ending : Ended)
    → Talk config shown number place bytes ended drawn clocks calls written ending → ArePlain calls
talk-plain config shown _ _ _ _ _ _ _ _ _ (silent number place bytes ended written ending stops) = tt
talk-plain config shown _ _ _ _ _ _ _ _ _ (last number place bytes rest ended message fresh clock calls answer written ending given answers ends spent) =
    message-plain config number message fresh clock calls answer answers
talk-plain config shown _ _ _ _ _ _ _ _ _ (next number place bytes front rest ended message fresh clock calls page drawn clocks later written ending given split answers goes_on more) =
    plain-append later calls (talk-plain config shown _ _ _ _ _ _ _ _ _ more) (message-plain config number message fresh clock calls (Ok page) answers)

-- ---- backed calls

-- further exchanges back no less
backed-more : (more exchanges : List Exchange) (calls : List Entry) → AreBacked exchanges calls → AreBacked (more ++ exchanges) calls
backed-more more exchanges [] h = tt
backed-more more exchanges (e ∷ before) (inl plain, rest) = (inl plain, backed-more more exchanges before rest)
backed-more more exchanges (e ∷ before) (inr own, rest) = (
  inr (record {
    newer = more ++ own.newer;
    added = own.added;
    older = own.older;
    split = ap (λ l. more ++ l) own.split ∙ sym (append_assoc more own.newer (own.added ++ own.older));
    delivered = own.delivered;
  }),
  rest,
)

backed-plain : (exchanges : List Exchange) (calls context : List Entry) → ArePlain calls → AreBacked exchanges context → AreBacked exchanges (calls ++ context)
backed-plain exchanges [] context plain h = h
backed-plain exchanges (e ∷ calls) context (here, rest) h = (inl here, backed-plain exchanges calls context rest h)

has-more : {X : Type 0} (newer older : List X) (x : X) → Has older x → Has (newer ++ older) x
has-more [] older x h = h
has-more (first ∷ newer) older x h = inr (has-more newer older x h)

-- ---- rounds

-- one message, which was told due
tries-backed : (message : Numbered) (calls : List Entry) (added : List Exchange) (settled : Bool) (end : RoundEnd) (exchanges : List Exchange) (context : List Entry)
    → Tries message calls added settled end → WasDue context message → AreBacked exchanges context → AreBacked (added ++ exchanges) (calls ++ context)
tries-backed message _ _ _ _ exchanges context rounds.waits due h = h
tries-backed message _ _ _ _ exchanges context (rounds.unanswered added fault delivers) due h = backed-more added exchanges context h
tries-backed message _ _ _ _ exchanges context (rounds.unsettled added answer delivers) due h = backed-more added exchanges context h
tries-backed message _ _ _ _ exchanges context (rounds.was_settled added answer reply delivers) due h = (
  inr (record {
    newer = [];
    added = added;
    older = exchanges;
    split = refl;
    delivered = record { message = message; answered = answer; due = due; posted = delivery-posted message answer added delivers; is = refl };
  }),
  h,
)

-- each of these messages was told due
abbrev AreDue : List Entry → List Numbered → Type 0
AreDue context [] = Unit {0}
AreDue context (m ∷ messages) = WasDue context m × AreDue context messages

due-more : (newer context : List Entry) (messages : List Numbered) → AreDue context messages → AreDue (newer ++ context) messages
due-more newer context [] h = tt
due-more newer context (m ∷ messages) (here, rest) =
    (record { reply = here.reply; asked = has-more newer context (entry asks.Due here.reply) here.asked; told = here.told }, due-more newer context messages rest)

deliveries-backed : (messages : List Numbered) (calls : List Entry) (added : List Exchange) (count : ℕ) (end : RoundEnd) (exchanges : List Exchange) (context : List Entry)
    → Deliveries messages calls added count end → AreDue context messages → AreBacked exchanges context → AreBacked (added ++ exchanges) (calls ++ context)
deliveries-backed _ _ _ _ _ exchanges context rounds.done due h = h
deliveries-backed _ _ _ _ _ exchanges context (rounds.stopped message messages calls added settled end tries stops) due h = tries-backed message calls added settled end exchanges context tries due.0 h
deliveries-backed _ _ _ _ _ exchanges context (rounds.next message messages calls later added more settled others end tries rest) due h =
    let first = tries-backed message calls added settled _ exchanges context tries due.0 h in
    let all = deliveries-backed messages later more others end (added ++ exchanges) (calls ++ context) rest (due-more calls context messages due.1) first in
    subst (λ x. AreBacked x ((later ++ calls) ++ context)) (sym (append_assoc more added exchanges))
    (subst (λ y. AreBacked (more ++ (added ++ exchanges)) y) (sym (append_assoc later calls context)) all)

-- all messages of a reply were told due by it
told-due : (reply : Reply) (context : List Entry) (messages : List Numbered) → ((m : Numbered) → Has messages m → Has (messages_of reply) m) → Has context (entry asks.Due reply) → AreDue context messages
told-due reply context [] all there = tt
told-due reply context (m ∷ messages) all there = (record { reply = reply; asked = there; told = all m (inl refl) }, told-due reply context messages (λ n h. all n (inr h)) there)

round-backed : (calls : List Entry) (added : List Exchange) (pumped : Pumped) (exchanges : List Exchange) (context : List Entry) → Round calls added pumped → AreBacked exchanges context → AreBacked (added ++ exchanges) (calls ++ context)
round-backed _ _ _ exchanges context rounds.refused h = h
round-backed _ _ _ exchanges context rounds.unread h = (inl refl, h)
round-backed _ _ _ exchanges context (rounds.due reply calls added settled end had deliveries) h =
    let asked : AreBacked exchanges (entry asks.Due reply ∷ context) = (inl refl, h) in
    subst (λ y. AreBacked (added ++ exchanges) y) (sym (append_assoc calls (entry asks.Due reply ∷ []) context))
    (deliveries-backed (messages_of reply) calls added settled end exchanges (entry asks.Due reply ∷ context) deliveries (told-due reply (entry asks.Due reply ∷ context) (messages_of reply) (λ m there. there) (inl refl)) asked)

-- ---- visits

-- what was done behind a connection
record Done {Terms : Type 0} (old new : Hold Terms) : Type 0 where
  pub calls : List Entry
  pub added : List Exchange
  pub does : Does old new calls added
  pub backs : (exchanges : List Exchange) (context : List Entry) → AreBacked exchanges context → AreBacked (added ++ exchanges) (calls ++ context)

added-none : (o : Option (List Exchange)) → o ≡ option_map (λ before. [] ++ before) o
added-none None = refl
added-none (Some before) = refl

behind-done : {Terms : Type 0} (limit : ℕ) (delivers : Bool) (pumped : Option Pumped) (old new : Hold Terms) → Behind limit delivers pumped old new → Done old new
behind-done limit delivers (Some pumped) old new behind =
    let round = behind.1 in
    record { calls = round.0; added = round.1; does = round.2; backs = λ exchanges context h. round-backed round.0 round.1 pumped exchanges context round.3 h }
behind-done limit delivers None old new behind =
    record { calls = []; added = []; does = subst (λ (h : Hold _). Does old h [] []) (sym behind.1) (record { moved = moved_nothing old.pass; adds = added-none old.exchanges }); backs = λ exchanges context h. h }

-- these calls were made, with these exchanges, which stand behind those that the post had, where it tells them
pub record Made {Terms : Type 0} (old new : Desk Terms) : Type 0 where
  pub calls : List Entry
  pub added : List Exchange
  pub moved : Moved old.pass new.pass calls
  pub adds : (exchanges : List Exchange) → old.exchanges ≡ Some exchanges → new.exchanges ≡ Some (added ++ exchanges)
  pub backed : AreBacked added calls

module _ {C Terms : Type 0} (sides : C → Sides) (config : Config) (limit : ℕ) (delivers : Bool) where
  pub visits-backed : (visits : List (Visit C)) (old new : Desk Terms) → Visits sides config limit delivers visits old new → Made old new
  visits-backed [] old new same = record {
    calls = [];
    added = [];
    moved = subst (λ (d : Desk Terms). Moved old.pass d.pass []) (sym same) (moved_nothing old.pass);
    adds = λ exchanges told. ap (λ (d : Desk Terms). d.exchanges) same ∙ told;
    backed = tt;
  }
  visits-backed (v ∷ before) old new (b, earlier, visited) =
      let m = visits-backed before old b earlier in
      let talk = visited.talked in
      let round = behind-done limit delivers v.pumped (hold visited.middle.pass visited.middle.exchanges) (hold new.pass new.exchanges) visited.behind in
      let plain = talk-plain config talk.shown _ _ _ _ _ _ talk.deeds.calls _ _ talk.talk in
      record {
        calls = round.calls ++ (talk.deeds.calls ++ m.calls);
        added = round.added ++ m.added;
        moved = moved_then old.pass visited.middle.pass new.pass (talk.deeds.calls ++ m.calls) round.calls (moved_then old.pass b.pass visited.middle.pass m.calls talk.deeds.calls m.moved talk.does.calls) round.does.moved;
        adds = λ exchanges told.
            let waits : visited.middle.exchanges ≡ Some (m.added ++ exchanges) = visited.post_waits ∙ m.adds exchanges told in
            let adds : new.exchanges ≡ Some (round.added ++ (m.added ++ exchanges)) = round.does.adds ∙ ap (option_map (λ l. round.added ++ l)) waits in
            adds ∙ ap Some (sym (append_assoc round.added m.added exchanges));
        backed = round.backs m.added (talk.deeds.calls ++ m.calls) (backed-plain m.added talk.deeds.calls m.calls plain m.backed);
      }
