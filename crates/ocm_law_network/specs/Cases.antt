-- Worked logs of two servers: alice's at `a.example` and bob's at `b.example`, of which neither host is foreign.
use Rattle.std.specs.Prelude.{◌≡◌, ℕ, List, [], ◌∷◌, Bool, false, codes, Some, None}
use Rattle.ocm_types.specs.Rights.{all_rights}
use Rattle.ocm_types.specs.declared.letters.Offer.{Offer}
use Rattle.ocm_entry.specs.declared.asks.Ask.TheVariants as asks
use Rattle.ocm_entry.specs.declared.asks.Cmd.TheVariants as commands
use Rattle.ocm_entry.specs.declared.entries.Entry.{Entry}
use Rattle.ocm_entry.specs.declared.replies.Reply.TheVariants.{Done, Key, Noticed, Number, Recipient}
use Rattle.ocm_dav_pages.specs.Pages.{page_of}
use Rattle.ocm_rules.specs.Cases.{add_alice, add_bob, alice_key, alice_shares, bob, bob_commands, bob_key, first_bytes, given, host_of_bob, no_bytes, offer_to_bob, our_host, root_path, second_secret}
use Rattle.ocm_rules.specs.Messages.{acceptance, refusal}
use Rattle.ocm_rules.specs.Numbers.{at_number}
use Rattle.ocm_rules.specs.declared.rows.Message.{Message}
use Rattle.ocm_entry.specs.Deliveries.{letter_ask}
use Rattle.ocm_law_posts.specs.Documents.{own_site}
use Rattle.ocm_law_posts.specs.Posts.{post_shape}
use Rattle.ocm_law_network.specs.Network.{Event, Has, Post, posts}
use Rattle.ocm_law_network.specs.Network.Event.{Begins, Called, Posted, Returned, Settled}

-- no host is foreign
abbrev pub alone : List ℕ → Bool
alone host = false

-- both servers, each with its user
abbrev pub two_servers : List Event
two_servers =
    Called host_of_bob None (given add_bob (Key bob_key))
    ∷ Called our_host None (given add_alice (Key alice_key))
    ∷ Begins host_of_bob 100000
    ∷ Begins our_host 100000
    ∷ []

-- alice shares all that she has with bob
abbrev pub shared : List Event
shared = Called our_host None (given (alice_shares root_path bob all_rights first_bytes) (Number 1)) ∷ two_servers

-- bob's acceptance, which goes to alice's server
abbrev pub accepts : Message
accepts = acceptance 1 offer_to_bob

-- a post of bob's message of this number to alice's server
abbrev pub post_home : ℕ → Message → Post
post_home number message = record { host = host_of_bob; number = number; message = message; site = own_site our_host }

abbrev pub post : Post
post = post_home 1 accepts

-- an offer comes to bob's server, from whomever; he accepts it, and the acceptance is posted
abbrev pub accepted : List Event → List Event
accepted log =
    Posted post
    ∷ Called host_of_bob None (given (bob_commands (commands.Accept 1)) Done)
    ∷ Called host_of_bob None (given (asks.Offer offer_to_bob) (Recipient (codes "bob")))
    ∷ log

-- the page of a yes comes back of bob's message of this number, on the connection of this number, and settles it
abbrev pub said_yes : ℕ → List Event → List Event
said_yes number log = Settled host_of_bob number (given (asks.Settle number 201 None) Done) ∷ Returned number (page_of Noticed post_shape).bytes ∷ log

-- alice's server is told the time, asked what the acceptance says, and takes it
abbrev pub tick : Entry
tick = given (asks.Tick 5) Done

abbrev pub acceptance_call : Entry
acceptance_call = given (letter_ask accepts.letter no_bytes) Noticed

abbrev pub taken : List Event
taken = Called our_host (Some 1) acceptance_call ∷ Called our_host None tick ∷ accepted shared

-- the page comes from there
abbrev pub told : List Event
told = said_yes 1 taken

-- somebody else says yes, in the place of alice's server, where she has shared nothing
abbrev pub forged : List Event
forged = said_yes 1 (accepted two_servers)

-- ---- a page to another letter

-- an offer in alice's name that she never made
abbrev pub invented : Offer
invented = record offer_to_bob { id = codes "2"; secret = second_secret }

-- bob declines the offer that she made, and her server takes word of it
abbrev pub declines : Message
declines = refusal 1 offer_to_bob

abbrev pub declined_call : Entry
declined_call = given (letter_ask declines.letter no_bytes) Noticed

abbrev pub declined : List Event
declined =
    Called our_host (Some 1) declined_call
    ∷ Posted (post_home 1 declines)
    ∷ Called host_of_bob None (given (bob_commands (commands.Decline 1)) Done)
    ∷ Called host_of_bob None (given (asks.Offer offer_to_bob) (Recipient (codes "bob")))
    ∷ shared

-- he accepts the other, and the acceptance is posted
abbrev pub accepts_invented : Message
accepts_invented = acceptance 2 invented

abbrev pub accepted_too : List Event
accepted_too =
    Posted (post_home 2 accepts_invented)
    ∷ Called host_of_bob None (given (bob_commands (commands.Accept 2)) Done)
    ∷ Called host_of_bob None (given (asks.Offer invented) (Recipient (codes "bob")))
    ∷ declined

-- what comes back of that is what her server said to the other letter
abbrev pub mistaken : List Event
mistaken = said_yes 2 accepted_too

-- bytes are a page by which the server of this host replied to some letter
pub record IsSomePage (log : List Event) (host bytes : List ℕ) : Type 0 where
  pub connection : ℕ
  pub call : Entry
  pub called : Has log (Called host (Some connection) call)
  pub is : bytes ≡ (page_of call.reply post_shape).bytes

-- the premise, were any page of that server enough
abbrev pub IsSomeReply : (List ℕ → Bool) → List Event → Event → Type 0
IsSomeReply foreign log (Posted post) = foreign post.message.to ≡ false → post.site ≡ own_site post.message.to
IsSomeReply foreign log (Returned connection bytes) = (post : Post) → at_number (posts log) connection ≡ Some post → foreign post.message.to ≡ false → IsSomePage log post.message.to bytes
IsSomeReply foreign log _ = Unit {0}
