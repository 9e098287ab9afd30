-- The premise, from what a connection is: a server of this program at its other end reads what was posted, or a prefix of it,
-- and what comes back is what that server wrote, or a prefix of it.
use Rattle.std.specs.Prelude.{◌≡◌, ◌⊎◌, ℕ, List, [], ◌∷◌, Bool, true, false, Option, Some, None, if◌then◌else◌, IsTrue}
use Rattle.ocm_types.specs.Hosts.{is_host}
use Rattle.ocm_types.specs.declared.letters.Letter.{Letter}
use Rattle.ocm_entry.specs.declared.entries.Entry.{Entry}
use Rattle.ocm_entry.specs.declared.replies.Reply.{Reply}
use Rattle.ocm_entry.specs.declared.replies.Reply.TheVariants.{Done}
use Rattle.ocm_dav_pages.specs.Pages.{page_of}
use Rattle.ocm_dav.specs.declared.configs.Config.{Config}
use Rattle.ocm_http.specs.Frames.{Given}
use Rattle.ocm_http.specs.declared.messages.Message as http
use Rattle.ocm_pump.specs.Delivery.{document_request, first_place, post_request, second_place, site_by}
use Rattle.ocm_pump.specs.Replies.{IsReply}
use Rattle.ocm_pump.specs.declared.sites.Site.{Site}
use Rattle.ocm_pump.specs.declared.deliveries.Answered.{Answered}
use Rattle.ocm_server_connections.specs.Sides.{IsFront}
use Rattle.ocm_server_connections.specs.Talk.{Shown, Talk, is_done, ticked}
use Rattle.ocm_server_connections.specs.declared.endings.Ended.{Ended}
use Rattle.ocm_turn.specs.Calls.{entry}
use Rattle.ocm_rules.specs.History.{is_failure}
use Rattle.ocm_entry.specs.Ticks.{is_tick}
use Rattle.ocm_rules.specs.Numbers.{at_number}
use Rattle.ocm_entry.specs.Deliveries.{letter_ask}
use Rattle.ocm_law_posts.specs.Answers.{IsSound, may_answer}
use Rattle.ocm_law_posts.specs.Documents.{own_site}
use Rattle.ocm_law_posts.specs.Letters.{IsLetter}
use Rattle.ocm_law_posts.specs.Names.{StandsInUrls, name_of}
use Rattle.ocm_law_posts.specs.Posts.{post_shape}
use Rattle.ocm_law_network.specs.Network.{Along, Event, Has, IsLog, IsTold, Post, RepliesAreTheirs, is_decisive, posts}
use Rattle.ocm_law_network.specs.Network.Event.{Begins, Called, Posted, Returned, Settled, Crashed}

-- what is known of the calls of a connection: replies are values of their types, a tick that was not done tells that the
-- server could not, and what the letter was told may answer it
pub record AreReplies (letter : Letter) (calls : List Entry) : Type 0 where
  pub sound : (e : Entry) → Has calls e → IsSound e.reply
  pub ticks : (clock : ℕ) (reply : Reply) → Has calls (ticked clock reply) → is_done reply ≡ false → IsTrue (is_failure reply)
  pub letters : (fresh : List ℕ) (reply : Reply) → Has calls (entry (letter_ask letter fresh) reply) → may_answer letter reply ≡ true

-- a letter was asked behind a tick, and what came back is the page of the reply
pub record IsReplied (letter : Letter) (calls : List Entry) (bytes : List ℕ) : Type 0 where
  pub fresh : List ℕ
  pub clock : ℕ
  pub reply : Reply
  pub calls_are : calls ≡ entry (letter_ask letter fresh) reply ∷ ticked clock Done ∷ []
  pub page : bytes ≡ (page_of reply post_shape).bytes

-- Where a server reads a prefix of a post to its own site, and a prefix of what it writes says yes or no to the letter, the
-- server was asked the letter, and that prefix is the whole page of its reply.
abbrev pub PostsAreReplied : Type 0
PostsAreReplied =
    (host : List ℕ) (letter : Letter) (config : Config) (shown : Shown) (read : List ℕ) (ended : Bool) (drawn : List (List ℕ)) (clocks : List ℕ) (calls : List Entry) (written bytes : List ℕ) (ending : Ended) (answered : Answered)
    → IsTrue (is_host host) → IsLetter letter → IsFront read (post_request (own_site host) letter) → Talk config shown 0 0 read ended drawn clocks calls written ending → IsFront bytes written
    → AreReplies letter calls → IsTold letter bytes answered → IsTrue (is_decisive answered.status) → IsReplied letter calls bytes

-- ---- sites

-- A site was found in what came back of a request for the document of a host, at one of its two places: a server of that host
-- was at the other end.
pub record IsFound (host : List ℕ) (site : Site) : Type 0 where
  pub place : List ℕ
  pub is_place : (place ≡ first_place) ⊎ (place ≡ second_place)
  pub config : Config
  pub own : config.host ≡ host
  pub shown : Shown
  pub read : List ℕ
  pub ended : Bool
  pub drawn : List (List ℕ)
  pub clocks : List ℕ
  pub calls : List Entry
  pub written : List ℕ
  pub ending : Ended
  pub there : IsFront read (document_request host place)
  pub talk : Talk config shown 0 0 read ended drawn clocks calls written ending
  pub bytes : List ℕ
  pub back : IsFront bytes written
  pub message : http.Message
  pub rest : List ℕ
  pub came : IsReply bytes (Given message rest)
  pub usable : site_by message.head message.body ≡ Some site

-- then it is the host's own, where the URL Standard takes the host's name as it stands
abbrev pub SitesAreTheirs : Type 0
SitesAreTheirs = (host : List ℕ) (site : Site) → IsTrue (is_host host) → StandsInUrls (name_of host) → IsFound host site → site ≡ own_site host

-- ---- the premise

-- the connection that a call is on in a log: ticks are on none
abbrev pub place_of : ℕ → Entry → Option ℕ
place_of connection e = if is_tick e.ask then None else Some connection

-- A connection's other end is at the server of a host: that read a prefix of what was posted, and a prefix of what it wrote
-- came back; its calls are those of the log.
pub record IsCarried (log : List Event) (connection : ℕ) (post : Post) (bytes : List ℕ) : Type 0 where
  pub config : Config
  pub shown : Shown
  pub read : List ℕ
  pub ended : Bool
  pub drawn : List (List ℕ)
  pub clocks : List ℕ
  pub calls : List Entry
  pub written : List ℕ
  pub ending : Ended
  pub there : IsFront read (post_request post.site post.message.letter)
  pub talk : Talk config shown 0 0 read ended drawn clocks calls written ending
  pub back : IsFront bytes written
  pub logged : (e : Entry) → Has calls e → Has log (Called post.message.to (place_of connection e) e)
  pub sound : (e : Entry) → Has calls e → IsSound e.reply

-- A letter to a host that is not foreign goes to a site that was found in what that host's server said, and the URL Standard
-- takes the host's name as it stands. Where what comes back of the letter says yes or no, the server of that host was at the
-- other end.
abbrev pub CarriesTheirs : (List ℕ → Bool) → List Event → Event → Type 0
CarriesTheirs foreign log (Begins host area) = Unit {0}
CarriesTheirs foreign log (Called host on call) = Unit {0}
CarriesTheirs foreign log (Posted post) = foreign post.message.to ≡ false → StandsInUrls (name_of post.message.to) × IsFound post.message.to post.site
CarriesTheirs foreign log (Returned connection bytes) =
    (post : Post) (answered : Answered) → at_number (posts log) connection ≡ Some post → foreign post.message.to ≡ false
    → IsTold post.message.letter bytes answered → IsTrue (is_decisive answered.status) → IsCarried log connection post bytes
CarriesTheirs foreign log (Settled host connection call) = Unit {0}
CarriesTheirs foreign log (Crashed host flight next) = Unit {0}

abbrev pub ConnectionsCarry : (List ℕ → Bool) → List Event → Type 0
ConnectionsCarry foreign log = Along (CarriesTheirs foreign) log

-- then the replies of hosts that are not foreign come from them
abbrev pub CarriedAreTheirs : Type 0
CarriedAreTheirs = (foreign : List ℕ → Bool) (log : List Event) → IsLog foreign log → ConnectionsCarry foreign log → RepliesAreTheirs foreign log
