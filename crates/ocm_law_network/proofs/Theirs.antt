-- The premise, from what connections carry.
use Rattle.std.proofs.Common.{◌≡◌, ℕ, List, [], ◌∷◌, ◌++◌, Bool, true, false, refl, sym, ap, subst, Option, Some, None}
use Rattle.std.specs.Prelude.{◌⊎◌, IsTrue, if◌then◌else◌}
use mathlib.Core.Logic.{inl, inr}
use Rattle.ocm_types.specs.Hosts.{is_host}
use Rattle.ocm_types.specs.declared.letters.Letter.{Letter}
use Rattle.ocm_types.specs.declared.letters.Letter.TheVariants as letters
use Rattle.ocm_entry.specs.declared.asks.Ask.{Ask}
use Rattle.ocm_entry.specs.declared.asks.Ask.TheVariants as asks
use Rattle.ocm_entry.specs.declared.entries.Entry.{Entry}
use Rattle.ocm_entry.specs.declared.replies.Reply.{Reply}
use Rattle.ocm_entry.specs.declared.replies.Reply.TheVariants as replies
use Rattle.ocm_pump.specs.Delivery.{post_request}
use Rattle.ocm_server_connections.specs.Sides.{IsFront}
use Rattle.ocm_server_connections.specs.Talk.{is_done, ticked}
use Rattle.ocm_turn.specs.Calls.{entry}
use Rattle.ocm_rules.specs.History.{is_failure}
use Rattle.ocm_entry.specs.Ticks.{is_tick}
use Rattle.ocm_rules.proofs.Lists.{not_both}
use Rattle.ocm_law_sessions.specs.Sessions.{IsReply as IsSessionReply, fault_in}
use Rattle.ocm_law_sessions.proofs.Replying.{reply-given}
use Rattle.ocm_law_world.specs.World.{Session}
use Rattle.ocm_entry.specs.Deliveries.{letter_ask}
use Rattle.ocm_law_posts.specs.Answers.{may_answer}
use Rattle.ocm_law_posts.specs.Documents.{own_site}
use Rattle.ocm_law_posts.specs.Names.{StandsInUrls, name_of}
use Rattle.ocm_law_posts.proofs.Replying.{replies-answer}
use Rattle.ocm_law_network.specs.Network.{Event, Has, IsTheirs, IsLog, MayHappen, Post}
use Rattle.ocm_law_network.specs.Network.Event.{Begins, Called, Posted, Returned, Settled, Crashed}
use Rattle.ocm_law_network.specs.Carried.{AreReplies, CarriedAreTheirs, ConnectionsCarry, IsCarried, CarriesTheirs, IsFound, IsReplied, place_of}
use Rattle.ocm_law_network.proofs.Events.{GoesHome, Sound, called-legal, posts-sound, posts-with}
use Rattle.ocm_law_network.proofs.Bytes.{told-answer}
use Rattle.ocm_law_network.proofs.Carrying.{posts-replied}
use Rattle.ocm_law_network.proofs.Finding.{sites-theirs}

-- ---- the premise

-- what is not a tick is on the connection
letter-called : (letter : Letter) (fresh : List ℕ) → is_tick (letter_ask letter fresh) ≡ false
letter-called (letters.Offer offer) fresh = refl
letter-called (letters.Notice notice) fresh = refl

on-connection : (connection : ℕ) (e : Entry) → is_tick e.ask ≡ false → place_of connection e ≡ Some connection
on-connection connection e other = ap (λ b. if b then None else Some connection) other

-- the calls of a connection that stand in a log
are-replies : (foreign : List ℕ → Bool) (log : List Event) (connection : ℕ) (post : Post) (back : List ℕ) → IsLog foreign log → (c : IsCarried log connection post back) → AreReplies post.message.letter c.calls
are-replies foreign log connection post back is c = record { sound = c.sound; ticks = ticks; letters = letters }
  where
    told : (on : Option ℕ) (ask : Ask) (reply : Reply) → Has log (Called post.message.to on (entry ask reply)) → (s : Session) × IsSessionReply post.message.to s.area s.base s.calls ask reply
    told on ask reply there = called-legal foreign log is post.message.to on (entry ask reply) there

    ticks : (clock : ℕ) (reply : Reply) → Has c.calls (ticked clock reply) → is_done reply ≡ false → IsTrue (is_failure reply)
    ticks clock reply there undone =
        let at = told None (asks.Tick clock) reply (c.logged (ticked clock reply) there) in
        by_case (reply-given post.message.to at.0.area (fault_in at.0.calls) (at.0.calls ++ at.0.base) (asks.Tick clock) reply at.1)
      where
        by_case : (reply ≡ replies.Done) ⊎ IsTrue (is_failure reply) → IsTrue (is_failure reply)
        by_case (inl done) = absurd (not_both (is_done reply) (ap is_done done) undone)
        by_case (inr fails) = fails

    letters : (fresh : List ℕ) (reply : Reply) → Has c.calls (entry (letter_ask post.message.letter fresh) reply) → may_answer post.message.letter reply ≡ true
    letters fresh reply there =
        let call : Entry = entry (letter_ask post.message.letter fresh) reply in
        let at = told (place_of connection call) (letter_ask post.message.letter fresh) reply (c.logged call there) in
        replies-answer post.message.to at.0.area at.0.base at.0.calls post.message.letter fresh reply at.1

-- posts go home
goes-home : (foreign : List ℕ → Bool) (post : Post) → IsTrue (is_host post.message.to) → (foreign post.message.to ≡ false → StandsInUrls (name_of post.message.to) × IsFound post.message.to post.site) → GoesHome foreign post
goes-home foreign post target found ours = let f = found ours in sites-theirs post.message.to post.site target f.0 f.1

event-theirs : (foreign : List ℕ → Bool) (log : List Event) → IsLog foreign log → ConnectionsCarry foreign log → (event : Event) → MayHappen foreign log event → CarriesTheirs foreign log event → IsTheirs foreign log event
event-theirs foreign log is carry (Begins host area) may carried = tt
event-theirs foreign log is carry (Called host on call) may carried = tt
event-theirs foreign log is carry (Posted post) may carried = goes-home foreign post may.target carried
event-theirs foreign log is carry (Returned connection all) may carried = λ post answered posted ours told well.
    let c : IsCarried log connection post all = carried post answered posted ours told well in
    let sound : Sound post = posts-sound foreign log is connection post posted in
    let found = posts-with (CarriesTheirs foreign) (λ p. foreign p.message.to ≡ false → StandsInUrls (name_of p.message.to) × IsFound p.message.to p.site) (λ log p goes. goes) log carry connection post posted in
    let home : post.site ≡ own_site post.message.to = goes-home foreign post sound.target found ours in
    let front : IsFront c.read (post_request (own_site post.message.to) post.message.letter) = subst (λ s. IsFront c.read (post_request s post.message.letter)) home c.there in
    let known : AreReplies post.message.letter c.calls = are-replies foreign log connection post all is c in
    let replied : IsReplied post.message.letter c.calls all =
    posts-replied post.message.to post.message.letter c.config c.shown c.read c.ended c.drawn c.clocks c.calls c.written all c.ending answered sound.target sound.letter front c.talk c.back known told well in
    let call : Entry = entry (letter_ask post.message.letter replied.fresh) replied.reply in
    let there : Has c.calls call = subst (λ l. Has l call) (sym replied.calls_are) (inl refl) in
    record {
      call = call;
      called = subst (λ o. Has log (Called post.message.to o call)) (on-connection connection call (letter-called post.message.letter replied.fresh)) (c.logged call there);
      is = told-answer post.message.letter replied.reply all answered (known.letters replied.fresh replied.reply there) (c.sound call there) replied.page told;
    }
event-theirs foreign log is carry (Settled host connection call) may carried = tt
event-theirs foreign log is carry (Crashed host flight after) may carried = tt

pub carried-theirs : CarriedAreTheirs
carried-theirs foreign [] is carry = tt
carried-theirs foreign (event ∷ log) is carry = (event-theirs foreign log is.1 carry.1 event is.0 carry.0, carried-theirs foreign log is.1 carry.1)
