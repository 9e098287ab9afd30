-- The worked logs are logs.
use Rattle.std.proofs.Common.{◌≡◌, ℕ, List, [], ◌∷◌, Bool, true, false, refl, sym, subst, Some, None, Ok, append-nil, codes}
use Rattle.std.specs.Prelude.{IsTrue, Option}
use Rattle.std.specs.Fmt.{digits}
use Rattle.json.proofs.Printed.Utf8.{IsUtf8-are_ascii}
use mathlib.Core.Logic.{inl, inr}
use Rattle.ocm_types.specs.declared.phases.Phase.TheVariants.{Confirmed}
use Rattle.ocm_types.specs.Hosts.{is_host}
use Rattle.ocm_entry.specs.declared.asks.Ask.TheVariants as asks
use Rattle.ocm_entry.specs.declared.entries.Entry.{Entry}
use Rattle.ocm_entry.specs.declared.replies.Reply.{Reply}
use Rattle.ocm_entry.specs.declared.replies.Reply.TheVariants.{Noticed}
use Rattle.ocm_entry_bytes.specs.Spells.{two_bytes, four_bytes, eight_bytes, text, rights, optional}
use Rattle.url.specs.Input.{rsplit_once}
use Rattle.url.specs.Ipv4.{ends_in_a_number, parse_number}
use Rattle.ocm_dav_pages.specs.Pages.{page_of}
use Rattle.ocm_pump.specs.declared.deliveries.Answered.{Answered}
use Rattle.ocm_rules.specs.Cases.{first_secret, given, host_of_bob, no_bytes, offer_to_bob, our_host}
use Rattle.ocm_rules.specs.History.{answer}
use Rattle.ocm_rules.specs.Messages.{out, phase}
use Rattle.ocm_rules.specs.declared.rows.Message.{Message}
use Rattle.ocm_rules.specs.Numbers.{at_number}
use Rattle.ocm_rules.specs.Offers.{offers}
use Rattle.ocm_rules.proofs.Searches.{some-same}
use Rattle.ocm_law_sessions.specs.Sessions.{IsToldReply, fault_in, fits, would_change}
use Rattle.ocm_law_sessions.specs.Written.{record_of}
use Rattle.ocm_entry.specs.Deliveries.{letter_ask}
use Rattle.ocm_law_world.specs.Guests.{IsMade}
use Rattle.ocm_law_world.specs.Stories.{Holds, IsAnswer}
use Rattle.ocm_law_world.specs.World.{Session, history_of, kept_at}
use Rattle.ocm_law_world.proofs.Unmade.{unmade}
use Rattle.ocm_http.specs.ReadBack.{reply_message, request_message}
use Rattle.ocm_pump.specs.Delivery.{document_request, first_place, post_request}
use Rattle.ocm_server_connections.specs.Sides.{IsRequests}
use Rattle.ocm_server_connections.specs.Talk.{Answers, EndsWith, Replied}
use Rattle.ocm_server_connections.specs.Talk.Talk.{last}
use Rattle.ocm_server_connections.specs.declared.endings.Ended.TheVariants.{Closed}
use Rattle.ocm_law_posts.specs.Answers.{IsSound, may_answer}
use Rattle.ocm_law_posts.specs.Documents.{own_site}
use Rattle.ocm_law_posts.specs.Letters.{IsLetter}
use Rattle.ocm_law_posts.specs.Names.{StandsInUrls, name_of}
use Rattle.ocm_law_posts.specs.Posts.{post_message, post_shape}
use Rattle.ocm_law_posts.proofs.Documents.{document-home, document_text}
use Rattle.ocm_law_posts.proofs.Messages.{post-message}
use Rattle.ocm_law_posts.proofs.Names.{plain-stands}
use Rattle.ocm_law_posts.proofs.Pages.{fields}
use Rattle.ocm_law_network.specs.Network.{ComesBy, Event, Has, IsLog, Post, Posts, Replies, RepliesAreTheirs, Settles, is_used, posts, session_of, world_of}
use Rattle.ocm_law_network.specs.Network.Event.{Called, Returned}
use Rattle.ocm_law_network.specs.Cases.{acceptance_call, accepted, accepts, alone, forged, post, post_home, shared, taken, tick, told, two_servers}
use Rattle.ocm_law_network.specs.Carried.{ConnectionsCarry, IsCarried, IsFound, place_of}
use Rattle.ocm_law_network.proofs.Carrying.{post-ends, wants-letter}
use Rattle.ocm_law_network.proofs.Finding.{document_page, page-read, request-ends, request-read, request-wants}
use Rattle.ocm_law_network.proofs.Theirs.{carried-theirs}
use Rattle.ocm_law_network.proofs.Bytes.{letter-asks, page-told}
use Rattle.ocm_law_network.proofs.Reached.{log-made}

-- the answer of the rules is a reply of a session that has room
answer-told : (change : Bool) (fault : Option ℕ) (room : Bool) (answered reply : Reply) → reply ≡ answered → fault ≡ None → room ≡ true → IsToldReply change fault room answered reply
answer-told false fault room answered reply is fine roomy = is
answer-told true None true answered reply is fine roomy = inl is
answer-told true None false answered reply is fine roomy = absurd (cc)
answer-told true (Some count) room answered reply is fine roomy = absurd (cc)

-- what is there
pub there : {X : Type 0} (P : X → Type 0) (o : Option X) → Holds P o → (x : X) × (o ≡ Some x) × P x
there P None h = absurd h
there P (Some x) h = (x, refl, h)

-- the reply to a call is the answer of the rules, for which there is room
pub replies : (log : List Event) (host : List ℕ) (call : Entry) → Holds (IsAnswer host call.ask call.reply) (session_of log host) → Replies log host call
replies log host call h =
    let s = there (IsAnswer host call.ask call.reply) (session_of log host) h in
    record {
      session = s.0;
      there = s.1;
      told = inr (answer-told (would_change host (history_of s.0) call.ask) (fault_in s.0.calls) (fits host s.0.area (history_of s.0) call.ask) (answer host (history_of s.0) call.ask) call.reply s.2.0 s.2.1 s.2.2);
    }

-- ---- the acceptance

accepts-letter : IsLetter accepts.letter
accepts-letter = record {
  parts = (record { has_id = refl; has_secret = refl }, record { read = refl; fits = refl }, record { read = refl; fits = refl }, refl);
  utf8 = (IsUtf8-are_ascii (codes "1") refl, (IsUtf8-are_ascii first_secret refl, (IsUtf8-are_ascii (codes "alice") refl, (IsUtf8-are_ascii (codes "bob") refl, tt))));
  counted = refl;
}

-- a message of bob's is posted to alice's server
pub posts-so : (log : List Event) (number : ℕ) (message : Message) → IsLetter message.letter → IsTrue (is_host message.to)
    → Holds (λ (s : Session). at_number (out host_of_bob (kept_at host_of_bob s)) number ≡ Some message) (session_of log host_of_bob) → Posts log (post_home number message)
posts-so log number message letter target h =
    let s = there (λ (s : Session). at_number (out host_of_bob (kept_at host_of_bob s)) number ≡ Some message) (session_of log host_of_bob) h in
    record { session = s.0; there = s.1; sent = s.2; letter = letter; target = target }

-- a yes comes back
abbrev yes : Answered
yes = record { status = 201; id = None }

pub settles : (log : List Event) (number : ℕ) (message : Message) → may_answer message.letter Noticed ≡ true → at_number (posts log) number ≡ Some (post_home number message) → is_used number log ≡ false
    → Settles (Returned number (page_of Noticed post_shape).bytes ∷ log) host_of_bob number (asks.Settle number 201 None)
settles log number message may posted unused = record {
  post = post_home number message;
  posted = posted;
  own = refl;
  bytes = (page_of Noticed post_shape).bytes;
  came = inl refl;
  answered = yes;
  told = page-told message.letter Noticed may tt;
  is = refl;
  once = unused;
}

-- a letter of bob's comes to alice's server, which takes it
pub comes : (number : ℕ) (message : Message) → IsLetter message.letter → ComesBy (post_home number message) our_host (given (letter_ask message.letter no_bytes) Noticed)
comes number message letter = record {
  there = refl;
  config = record { host = our_host; admin = [] };
  fresh = no_bytes;
  asks = letter-asks our_host (record { host = our_host; admin = [] }) message.letter no_bytes refl letter;
}

-- ---- logs

two-log : IsLog alone two_servers
unfolding digits record_of two_bytes four_bytes eight_bytes text rights optional
two-log = ((replies _ _ _ (refl, refl, refl), refl, tt), ((replies _ _ _ (refl, refl, refl), refl, tt), ((refl, refl), ((refl, refl), tt))))

pub shared-log : IsLog alone shared
unfolding digits record_of two_bytes four_bytes eight_bytes text rights optional
shared-log = ((replies _ _ _ (refl, refl, refl), refl, tt), two-log)

accepted-log : IsLog alone (accepted two_servers)
unfolding digits record_of two_bytes four_bytes eight_bytes text rights optional
accepted-log = (posts-so _ 1 accepts accepts-letter refl refl, ((replies _ _ _ (refl, refl, refl), refl, tt), ((replies _ _ _ (refl, refl, refl), refl, tt), two-log)))

accepted-shared-log : IsLog alone (accepted shared)
unfolding digits record_of two_bytes four_bytes eight_bytes text rights optional
accepted-shared-log = (posts-so _ 1 accepts accepts-letter refl refl, ((replies _ _ _ (refl, refl, refl), refl, tt), ((replies _ _ _ (refl, refl, refl), refl, tt), shared-log)))

taken-log : IsLog alone taken
unfolding digits record_of two_bytes four_bytes eight_bytes text rights optional
taken-log = ((replies _ _ _ (refl, refl, refl), refl, (post, refl, comes 1 accepts accepts-letter)), ((replies _ _ _ (refl, refl, refl), refl, tt), accepted-shared-log))

pub told-log : IsLog alone told
unfolding digits record_of two_bytes four_bytes eight_bytes text rights optional
told-log = ((replies _ _ _ (refl, refl, refl), settles taken 1 accepts refl refl refl), ((post, refl), taken-log))

pub forged-log : IsLog alone forged
unfolding digits record_of two_bytes four_bytes eight_bytes text rights optional
forged-log = ((replies _ _ _ (refl, refl, refl), settles (accepted two_servers) 1 accepts refl refl refl), ((post, refl), accepted-log))

-- ---- the premise

-- alice's server's end of the connection of the post
carried : IsCarried taken 1 post (page_of Noticed post_shape).bytes
unfolding IsRequests Answers Replied EndsWith
carried = record {
  config = record { host = our_host; admin = [] };
  shown = record { read_rose = false; write_rose = false; spent = false };
  read = post_request (own_site our_host) accepts.letter;
  ended = true;
  drawn = no_bytes ∷ [];
  clocks = 5 ∷ [];
  calls = acceptance_call ∷ tick ∷ [];
  written = (page_of Noticed post_shape).bytes;
  ending = Closed;
  there = ([], sym (append-nil (post_request (own_site our_host) accepts.letter)));
  talk =
      last 0 0 (post_request (own_site our_host) accepts.letter) [] true (post_message (own_site our_host) accepts.letter) no_bytes 5 (acceptance_call ∷ tick ∷ []) (Ok (page_of Noticed post_shape)) (page_of Noticed post_shape).bytes Closed
      (post-message (own_site our_host) accepts.letter (record { host = refl; path = refl }) accepts-letter 0 true)
      (subst (λ w. Answers w 5 (acceptance_call ∷ tick ∷ []) (Ok (page_of Noticed post_shape))) (sym (wants-letter our_host accepts.letter (record { host = our_host; admin = [] }) no_bytes accepts-letter)) (Noticed, inr refl, refl, refl))
      (inl (post-ends our_host accepts.letter, refl)) refl;
  back = ([], sym (append-nil (page_of Noticed post_shape).bytes));
  logged = logged;
  sound = sound;
}
  where
    logged : (e : Entry) → Has (acceptance_call ∷ tick ∷ []) e → Has taken (Called our_host (place_of 1 e) e)
    logged e (inl same) = subst (λ x. Has taken (Called our_host (place_of 1 x) x)) same (inl refl)
    logged e (inr (inl same)) = subst (λ x. Has taken (Called our_host (place_of 1 x) x)) same (inr (inl refl))
    logged e (inr (inr none)) = absurd none

    sound : (e : Entry) → Has (acceptance_call ∷ tick ∷ []) e → IsSound e.reply
    sound e (inl same) = subst (λ (x : Entry). IsSound x.reply) same tt
    sound e (inr (inl same)) = subst (λ (x : Entry). IsSound x.reply) same tt
    sound e (inr (inr none)) = absurd none

-- her server's end of the connection on which the document was asked for
our-name : StandsInUrls (name_of our_host)
unfolding ends_in_a_number rsplit_once parse_number
our-name = plain-stands our_host refl refl

found : IsFound our_host (own_site our_host)
unfolding IsRequests Answers EndsWith
found = record {
  place = first_place;
  is_place = inl refl;
  config = record { host = our_host; admin = [] };
  own = refl;
  shown = record { read_rose = false; write_rose = false; spent = false };
  read = document_request our_host first_place;
  ended = true;
  drawn = no_bytes ∷ [];
  clocks = 5 ∷ [];
  calls = [];
  written = (document_page our_host).bytes;
  ending = Closed;
  there = ([], sym (append-nil (document_request our_host first_place)));
  talk =
      last 0 0 (document_request our_host first_place) [] true (request_message our_host (codes "GET") first_place None []) no_bytes 5 [] (Ok (document_page our_host)) (document_page our_host).bytes Closed
      (request-read our_host first_place refl (inl refl) 0 true)
      (subst (λ w. Answers w 5 [] (Ok (document_page our_host))) (sym (request-wants (record { host = our_host; admin = [] }) our_host first_place no_bytes (inl refl))) (refl, refl))
      (inl (request-ends our_host first_place, refl)) refl;
  bytes = (document_page our_host).bytes;
  back = ([], sym (append-nil (document_page our_host).bytes));
  message = reply_message 200 fields (document_text our_host) true;
  rest = [];
  came = page-read our_host refl 0 true;
  usable = document-home our_host refl our-name;
}

pub told-carried : ConnectionsCarry alone told
told-carried = (tt, ((λ other answered is ours answers well. subst (λ (p : Post). IsCarried taken 1 p (page_of Noticed post_shape).bytes) (some-same post other is) carried), (tt, (tt, ((λ ours. (our-name, found)), (tt, (tt, (tt, (tt, (tt, (tt, (tt, tt))))))))))))

pub told-theirs : RepliesAreTheirs alone told
told-theirs = carried-theirs alone told told-log told-carried

-- bob's record is confirmed, and nobody has made its share
forged-confirmed : Holds (λ (s : Session). (at_number (offers (kept_at host_of_bob s)) 1 ≡ Some offer_to_bob) × (phase host_of_bob (kept_at host_of_bob s) 1 ≡ Confirmed)) (session_of forged host_of_bob)
forged-confirmed = (refl, refl)

pub forged-unmade : IsMade (world_of alone forged []) offer_to_bob → ⊥
forged-unmade = unmade (world_of alone forged []) offer_to_bob refl

pub forged-others : RepliesAreTheirs alone forged → ⊥
forged-others theirs =
    let s = there (λ (s : Session). (at_number (offers (kept_at host_of_bob s)) 1 ≡ Some offer_to_bob) × (phase host_of_bob (kept_at host_of_bob s) 1 ≡ Confirmed)) (session_of forged host_of_bob) forged-confirmed in
    forged-unmade (log-made alone forged host_of_bob s.0 1 offer_to_bob forged-log theirs s.1 s.2.0 s.2.1 refl)
