-- What a server's end of a connection of a post says.
use Rattle.std.proofs.Common.{◌≡◌, ℕ, List, [], ◌∷◌, ◌++◌, length, map, codes, Bool, true, false, refl, sym, ap, ◌∙◌, subst, Option, Some, None, Result, Ok, Err, append_assoc, append-nil}
use Rattle.std.specs.Prelude.{IsTrue}
use mathlib.Core.Logic.{inl, inr}
use Rattle.ocm_limits.specs.Limits.{most_body_bytes, most_reply_bytes}
use Rattle.ocm_types.specs.Hosts.{is_host}
use Rattle.ocm_types.specs.declared.letters.Letter.{Letter}
use Rattle.ocm_entry.specs.declared.entries.Entry.{Entry}
use Rattle.ocm_entry.specs.declared.replies.Reply.{Reply}
use Rattle.ocm_entry.specs.declared.replies.Reply.TheVariants as replies
use Rattle.ocm_http.specs.Frames.{Given, Refused}
use Rattle.ocm_http.specs.ReadBack.{ReadsAs, lower, request_fields}
use Rattle.ocm_http.specs.declared.messages.Kind.TheVariants.{Replies, Requests}
use Rattle.ocm_http.specs.declared.messages.FrameFault.{FrameFault}
use Rattle.ocm_http.specs.declared.messages.FrameFault.TheVariants.{Cut}
use Rattle.ocm_http.specs.declared.messages.Message.{Message}
use Rattle.ocm_dav_pages.specs.Pages.{page_of}
use Rattle.ocm_dav_pages.specs.declared.shapes.Page.{Page}
use Rattle.ocm_dav.specs.declared.configs.Config.{Config}
use Rattle.ocm_dav.specs.declared.wants.Wanted.TheVariants as wants
use Rattle.ocm_pump.specs.Delivery.{letter_bytes, post_request}
use Rattle.ocm_pump.specs.Replies.{IsReply}
use Rattle.ocm_pump.specs.declared.deliveries.Answered.{Answered}
use Rattle.ocm_server_connections.specs.Sides.{IsFront, IsRequests}
use Rattle.ocm_server_connections.specs.Talk as talks
use Rattle.ocm_server_connections.specs.Talk.{Answers, EndsWith, Replied, Shown, Stops, Talk, Tries, counted, ending_after, no_memory, ticked, wanted_at}
use Rattle.ocm_server_connections.specs.Talk.Talk.{silent, last, next}
use Rattle.ocm_server_connections.specs.declared.endings.Ended.{Ended}
use Rattle.ocm_server_connections.specs.declared.endings.Ended.TheVariants as endings
use Rattle.ocm_server_connections.specs.declared.endings.Missed.{Missed}
use Rattle.ocm_server_connections.specs.declared.endings.Missed.TheVariants as misses
use Rattle.ocm_turn.specs.Calls.{entry}
use Rattle.ocm_rules.specs.History.{is_failure}
use Rattle.ocm_rules.proofs.Lists.{not_both}
use Rattle.ocm_entry.specs.Deliveries.{delivered_status, letter_ask}
use Rattle.ocm_law_posts.specs.Answers.{IsSound, Tells, may_answer}
use Rattle.ocm_law_posts.specs.Documents.{own_site}
use Rattle.ocm_law_posts.specs.Letters.{IsLetter}
use Rattle.ocm_law_posts.specs.Posts.{post_message, post_shape}
use Rattle.ocm_law_posts.proofs.Answers.{answers-told}
use Rattle.ocm_law_posts.proofs.Messages.{post-message}
use Rattle.ocm_law_posts.proofs.Routes.{letter-asked}
use Rattle.ocm_law_network.specs.Network.{Has, IsTold, is_decisive}
use Rattle.ocm_law_network.specs.Carried.{AreReplies, IsReplied, PostsAreReplied}
use Rattle.ocm_law_network.proofs.Bytes.{told-answer}
use Rattle.ocm_law_network.proofs.Fronts.{front-refused, front-whole}

-- ---- prefixes

-- a prefix of a prefix
pub front-on : (a b c : List ℕ) → IsFront a b → IsFront b c → IsFront a c
front-on a b c (more, is) (rest, goes_on) = (more ++ rest, goes_on ∙ ap (λ l. l ++ rest) is ∙ append_assoc a more rest)

front-self : (a : List ℕ) → IsFront a a
front-self a = ([], sym (append-nil a))

pub front-none : (a : List ℕ) → IsFront a [] → a ≡ []
front-none [] front = refl
front-none (x ∷ a) (rest, is) = absurd (cc)

-- ---- what tells nothing

-- no bytes
nothing-told : (letter : Letter) (answered : Answered) (bytes : List ℕ) → bytes ≡ [] → IsTold letter bytes answered → ⊥
nothing-told letter answered bytes none told =
    let read : IsReply [] (Given told.message told.rest) = subst (λ b. IsReply b (Given told.message told.rest)) none told.read in
    absurd (cc read)

-- a prefix of a page that tells anything is the page
page-whole : (letter : Letter) (reply : Reply) (bytes : List ℕ) (answered : Answered) → may_answer letter reply ≡ true → IsSound reply → IsFront bytes (page_of reply post_shape).bytes → IsTold letter bytes answered → bytes ≡ (page_of reply post_shape).bytes
page-whole letter reply bytes answered may sound (rest, is) told =
    let tells : Tells letter reply (page_of reply post_shape).bytes = answers-told letter reply may sound in
    let none : rest ≡ [] = (front-whole Replies most_reply_bytes bytes rest tells.message true told.message told.rest (subst (λ b. ReadsAs Replies most_reply_bytes b tells.message) is tells.read) told.read).1 in
    sym (is ∙ ap (λ l. bytes ++ l) none ∙ append-nil bytes)

-- a reply that tells that a server could not
failure-may : (letter : Letter) (reply : Reply) → IsTrue (is_failure reply) → may_answer letter reply ≡ true
failure-may letter replies.JournalFull fails = refl
failure-may letter replies.NoMemory fails = refl
failure-may letter (replies.DiskFault count) fails = refl
failure-may letter (replies.Stopped count) fails = refl
failure-may letter _ fails = absurd (not_both false fails refl)

failure-untold : (reply : Reply) → IsTrue (is_failure reply) → is_decisive (delivered_status reply) ≡ false
failure-untold replies.JournalFull fails = refl
failure-untold replies.NoMemory fails = refl
failure-untold (replies.DiskFault count) fails = refl
failure-untold (replies.Stopped count) fails = refl
failure-untold _ fails = absurd (not_both false fails refl)

failure-told : (letter : Letter) (reply : Reply) (answered : Answered) (bytes : List ℕ) → IsTrue (is_failure reply) → IsSound reply → IsFront bytes (page_of reply post_shape).bytes → IsTold letter bytes answered → IsTrue (is_decisive answered.status) → ⊥
failure-told letter reply answered bytes fails sound front told well =
    let may = failure-may letter reply fails in
    let same = told-answer letter reply bytes answered may sound (page-whole letter reply bytes answered may sound front told) told in
    not_both (is_decisive answered.status) well (ap (λ (a : Answered). is_decisive a.status) same ∙ failure-untold reply fails)

-- the fixed reply where memory was wanting
no_memory-told : (letter : Letter) (answered : Answered) (failed : Bool) (written bytes : List ℕ) → Tries failed no_memory written → IsFront bytes written → IsTold letter bytes answered → IsTrue (is_decisive answered.status) → ⊥
unfolding no_memory page_of
no_memory-told letter answered failed written bytes (inl is) front told well = failure-told letter replies.NoMemory answered bytes refl tt (subst (λ w. IsFront bytes w) is front) told well
no_memory-told letter answered failed written bytes (inr breaks) front told well = failure-told letter replies.NoMemory answered bytes refl tt (front-on bytes written no_memory front breaks.1) told well

-- ---- bytes that are no message

-- a fault with a place is none of a cut
pub placed-uncut : (fault : FrameFault) (at : ℕ) → talks.place_of fault ≡ Some at → fault ≡ Cut → ⊥
placed-uncut fault at place cut = none (sym (ap talks.place_of cut) ∙ place)
  where
    none : talks.place_of Cut ≡ Some at → ⊥
    none e = cc

module _ (host : List ℕ) (letter : Letter) (config : Config) (shown : Shown) (is : IsTrue (is_host host)) (h : IsLetter letter) (read : List ℕ) (front : IsFront read (post_request (own_site host) letter)) where
  abbrev message : Message
  message = post_message (own_site host) letter

  whole : ReadsAs Requests most_body_bytes (read ++ front.0) message
  whole = subst (λ b. ReadsAs Requests most_body_bytes b message) front.1 (post-message (own_site host) letter (record { host = is; path = refl }) h)

  -- what is refused of it is cut
  unrefused : (ended : Bool) (fault : FrameFault) (at : ℕ) → talks.place_of fault ≡ Some at → IsRequests 0 read ended (Refused fault) → ⊥
  unfolding IsRequests
  unrefused ended fault at place refused = front-refused Requests most_body_bytes read front.0 message ended fault whole (placed-uncut fault at place) refused

  stops-told : (ended : Bool) (written bytes : List ℕ) (ending : Ended) (answered : Answered) → Stops shown 0 read ended written ending → IsFront bytes written → IsTold letter bytes answered → IsTrue (is_decisive answered.status) → ⊥
  unfolding Stops
  stops-told ended written bytes endings.Closed answered stops back told well = nothing-told letter answered bytes (front-none bytes (subst (λ w. IsFront bytes w) stops.0 back)) told
  stops-told ended written bytes endings.Cut answered stops back told well = nothing-told letter answered bytes (front-none bytes (subst (λ w. IsFront bytes w) stops.0 back)) told
  stops-told ended written bytes (endings.Bad at) answered (wrote, fault, refused, place) back told well = unrefused ended fault at place refused
  stops-told ended written bytes endings.WriteFault answered (breaks, fault, at, refused, place) back told well = unrefused ended fault at place refused
  stops-told ended written bytes endings.ReadFault answered stops back told well = nothing-told letter answered bytes (front-none bytes (subst (λ w. IsFront bytes w) stops.0 back)) told
  stops-told ended written bytes endings.NoMemory answered stops back told well = no_memory-told letter answered shown.write_rose written bytes stops back told well
  stops-told ended written bytes endings.Quota answered stops back told well = absurd stops
  stops-told ended written bytes endings.Spent answered stops back told well = absurd stops

  same-message : (ended : Bool) (other : Message) (rest : List ℕ) → IsRequests 0 read ended (Given other rest) → other ≡ message
  unfolding IsRequests
  same-message ended other rest given = (front-whole Requests most_body_bytes read front.0 message ended other rest whole given).0

-- ---- the message

-- a post asks the letter, as the first message of its connection
pub wants-letter : (host : List ℕ) (letter : Letter) (config : Config) (fresh : List ℕ) → IsLetter letter → wanted_at config 0 (post_message (own_site host) letter) fresh ≡ wants.Ask (letter_ask letter fresh) post_shape
unfolding wanted_at counted
wants-letter host letter config fresh h = letter-asked config letter (map lower (request_fields host (codes "POST") None (length (letter_bytes letter)))) fresh h

-- its connection ends with it
pub post-ends : (host : List ℕ) (letter : Letter) → ending_after 0 (post_message (own_site host) letter) ≡ Some endings.Closed
unfolding ending_after
post-ends host letter = refl

-- the page of the reply was written, or a prefix of it
page-front : (letter : Letter) (fresh : List ℕ) (clock : ℕ) (calls : List Entry) (reply : Reply) (bytes : List ℕ) (answered : Answered) → Replied (letter_ask letter fresh) clock calls reply → AreReplies letter calls
    → IsFront bytes (page_of reply post_shape).bytes → IsTold letter bytes answered → IsTrue (is_decisive answered.status) → IsReplied letter calls bytes
unfolding Replied
page-front letter fresh clock calls reply bytes answered (inl (same, undone)) known front told well =
    let there : Has calls (ticked clock reply) = subst (λ l. Has l (ticked clock reply)) (sym same) (inl refl) in
    absurd (failure-told letter reply answered bytes (known.ticks clock reply there undone) (known.sound (ticked clock reply) there) front told well)
page-front letter fresh clock calls reply bytes answered (inr same) known front told well =
    let call : Entry = entry (letter_ask letter fresh) reply in
    let there : Has calls call = subst (λ l. Has l call) (sym same) (inl refl) in
    record { fresh = fresh; clock = clock; reply = reply; calls_are = same; page = page-whole letter reply bytes answered (known.letters fresh reply there) (known.sound call there) front told }

-- what the letter came to
letter-replied : (letter : Letter) (fresh : List ℕ) (clock : ℕ) (calls : List Entry) (answer : Result Page Missed) (failed : Bool) (after : Option Ended) (written bytes : List ℕ) (ending : Ended) (answered : Answered)
    → Answers (wants.Ask (letter_ask letter fresh) post_shape) clock calls answer → EndsWith failed after answer written ending → IsFront bytes written → AreReplies letter calls
    → IsTold letter bytes answered → IsTrue (is_decisive answered.status) → IsReplied letter calls bytes
unfolding Answers EndsWith
letter-replied letter fresh clock calls (Ok page) failed after written bytes ending answered (reply, replied, had, same) (inl (ends, all)) back known told well =
    page-front letter fresh clock calls reply bytes answered replied known (subst (λ w. IsFront bytes w) (all ∙ ap (λ (p : Page). p.bytes) same) back) told well
letter-replied letter fresh clock calls (Ok page) failed after written bytes ending answered (reply, replied, had, same) (inr (ends, breaks)) back known told well =
    page-front letter fresh clock calls reply bytes answered replied known (subst (λ w. IsFront bytes w) (ap (λ (p : Page). p.bytes) same) (front-on bytes written page.bytes back breaks.1)) told well
letter-replied letter fresh clock calls (Err misses.Spent) failed after written bytes ending answered answers ends back known told well =
    absurd (nothing-told letter answered bytes (front-none bytes (subst (λ w. IsFront bytes w) ends.1 back)) told)
letter-replied letter fresh clock calls (Err misses.NoMemory) failed after written bytes ending answered answers ends back known told well = absurd (no_memory-told letter answered failed written bytes ends.1 back told well)

pub some-not : (ended : Ended) → Some ended ≡ None → ⊥
some-not ended e = cc

-- ---- the connection

replied-by : (host : List ℕ) (letter : Letter) (config : Config) (shown : Shown) (number place : ℕ) (read : List ℕ) (ended : Bool) (drawn : List (List ℕ)) (clocks : List ℕ) (calls : List Entry) (written bytes : List ℕ) (ending : Ended) (answered : Answered)
    → IsTrue (is_host host) → IsLetter letter → IsFront read (post_request (own_site host) letter) → number ≡ 0 → place ≡ 0 → Talk config shown number place read ended drawn clocks calls written ending → IsFront bytes written
    → AreReplies letter calls → IsTold letter bytes answered → IsTrue (is_decisive answered.status) → IsReplied letter calls bytes
replied-by host letter config shown _ _ _ _ _ _ _ _ bytes _ answered is h front first at (silent number place read ended written ending stops) back known told well =
    absurd (stops-told host letter config shown is h read front ended written bytes ending answered (subst (λ p. Stops shown p read ended written ending) at stops) back told well)
replied-by host letter config shown _ _ _ _ _ _ _ _ bytes _ answered is h front first at (last number place read rest ended other fresh clock calls answer written ending given answers ends spent) back known told well =
    let same = same-message host letter config shown is h read front ended other rest (subst (λ p. IsRequests p read ended (Given other rest)) at given) in
    let wanted : wanted_at config number other fresh ≡ wants.Ask (letter_ask letter fresh) post_shape = (λ i. wanted_at config (first i) (same i) fresh) ∙ wants-letter host letter config fresh h in
    letter-replied letter fresh clock calls answer shown.write_rose (ending_after number other) written bytes ending answered (subst (λ w. Answers w clock calls answer) wanted answers) ends back known told well
replied-by host letter config shown _ _ _ _ _ _ _ _ bytes _ answered is h front first at (next number place read before rest ended other fresh clock calls page drawn clocks later written ending given split answers goes_on more) back known told well =
    let same = same-message host letter config shown is h read front ended other rest (subst (λ p. IsRequests p read ended (Given other rest)) at given) in
    let ends : ending_after number other ≡ Some endings.Closed = (λ i. ending_after (first i) (same i)) ∙ post-ends host letter in
    absurd (some-not endings.Closed (sym ends ∙ goes_on))

pub posts-replied : PostsAreReplied
posts-replied host letter config shown read ended drawn clocks calls written bytes ending answered is h front talk back known told well =
    replied-by host letter config shown 0 0 read ended drawn clocks calls written bytes ending answered is h front refl refl talk back known told well
