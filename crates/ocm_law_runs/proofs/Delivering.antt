-- A message is given to the server that it is for, and the reply comes back.
use Rattle.std.proofs.Common.{◌≡◌, ℕ, ◌+◌, List, [], ◌∷◌, Bool, true, false, refl, sym, subst}
use Rattle.std.specs.Prelude.{Option, Some, None, filter, map, option_map, option_and_then}
use Rattle.std.specs.Option.{option_map_or}
use Rattle.ocm_types.specs.Draws.{fresh_plus}
use Rattle.ocm_types.specs.declared.letters.Letter.{Letter}
use Rattle.ocm_types.specs.declared.letters.Letter.TheVariants as letters
use Rattle.ocm_types.specs.declared.letters.Numbered.{Numbered}
use Rattle.ocm_entry.specs.declared.asks.Ask.{Ask}
use Rattle.ocm_entry.specs.declared.asks.Ask.TheVariants as asks
use Rattle.ocm_entry.specs.declared.replies.Reply.{Reply}
use Rattle.ocm_entry.specs.declared.replies.Reply.TheVariants as replies
use Rattle.ocm_rules.specs.declared.rows.Message.{Message}
use Rattle.ocm_rules.specs.History.{kept}
use Rattle.ocm_rules.specs.Messages.{as_sent, is_due, numbered_from, out}
use Rattle.ocm_rules.specs.Numbers.{at_number}
use Rattle.ocm_rules.specs.Settlements.{is_settled}
use Rattle.ocm_law_sessions.specs.Sessions.{IsReply}
use Rattle.ocm_entry.specs.Deliveries as sent
use Rattle.ocm_law_world.specs.World.{Answer, Step, World, answer_to, changed, empty, settlement_by, with_call}
use Rattle.ocm_law_world.specs.World.Run.{Stays, Goes_on}
use Rattle.ocm_law_world.specs.World.Step.{Delivers}
use Rattle.ocm_entry.specs.Deliveries.{letter_ask}
use Rattle.ocm_script_run.specs.Deliveries.{Run, all_delivered, answered, deliver, delivered, next_wanting, nothing, others_wanting, pump, pumped, settlement, unreachable}
use Rattle.ocm_script_run.specs.Servers.{Server, area, asked_at, history, message_of, reply_of, server_after, server_at}
use Rattle.ocm_law_runs.specs.Standing.{Stands, session_of}
use Rattle.ocm_law_runs.proofs.Asking.{asked-run, comes-run}
use Rattle.ocm_law_runs.proofs.Replies.{reply-legal}
use Rattle.ocm_law_runs.proofs.Sending.{HasSent, HasSentAll, all-sent-on, told-sent}
use Rattle.ocm_law_runs.proofs.Steps.{IsAlone, Reaches, With, reaches-on, run-on, stays, with-changed, with-server, with-stands}

-- ---- one message

same-letter : (letter : Letter) (fresh : List ℕ) → letter_ask letter fresh ≡ sent.letter_ask letter fresh
same-letter (letters.Offer offer) fresh = refl
same-letter (letters.Notice notice) fresh = refl

same-settlement : (host : List ℕ) (n : ℕ) (reply : Reply) → settlement_by (answer_to host n reply) ≡ settlement n reply
same-settlement host n reply = refl

-- the message of this number is given to its server, and the reply comes back or is lost
pub delivered-run : (w : World) (servers : List Server) (wanting : List Bool) (line : ℕ) (sender fresh : List ℕ) (lost : Bool) (n : ℕ) (message : Message) → HasSent w sender n message → Stands w servers
    → Reaches w (λ later. Stands later (delivered wanting servers line sender fresh lost (as_sent (n, message))).world)
delivered-run w servers wanting line sender fresh lost n message (s, is, there) stands = by_case (server_at servers message.to) refl
  where
    ask : Ask
    ask = letter_ask message.letter fresh

    heard : List Server
    heard = asked_at (next_wanting wanting) servers message.to ask

    comes : Reply → Run
    comes reply = answered (next_wanting (others_wanting wanting)) heard line sender lost (as_sent (n, message)) reply

    -- the reply comes back, or is lost
    comes-back : (later : World) (reply : Reply) (lost : Bool) → later.answers ≡ answer_to sender n reply ∷ w.answers → Stands later heard
        → Reaches later (λ last. Stands last (answered (next_wanting (others_wanting wanting)) heard line sender lost (as_sent (n, message)) reply).world)
    comes-back later reply true under stands = stays _ later stands
    comes-back later reply false under stands =
        subst (λ a. Reaches later (λ last. Stands last (asked_at (next_wanting (others_wanting wanting)) heard sender a))) (same-settlement sender n reply)
        (comes-run later heard (answer_to sender n reply) w.answers (next_wanting (others_wanting wanting)) under stands)

    by_case : (o : Option Server) → server_at servers message.to ≡ o
        → Reaches w (λ later. Stands later (option_map_or comes (option_map (λ server. reply_of (next_wanting wanting) server ask) o) (unreachable servers line message.to)).world)
    by_case None none = stays _ w stands
    by_case (Some peer) e =
        let with = with-server w servers message.to peer stands e in
        let reply : Reply = reply_of (next_wanting wanting) peer ask in
        let told : IsReply message.to area peer.base peer.calls ask reply = reply-legal (next_wanting wanting) peer message.to ask with.own in
        let answers : List Answer = answer_to sender n reply ∷ w.answers in
        let later : World = changed w message.to (with_call (session_of peer) ask reply) answers in
        let same : ask ≡ sent.letter_ask message.letter fresh = same-letter message.letter fresh in
        let step : Step w later =
        subst (λ a. IsReply message.to area peer.base peer.calls a reply → Step w (changed w message.to (with_call (session_of peer) a reply) answers)) (sym same)
        (λ h. Delivers sender s n message (session_of peer) fresh reply is there with.here h) told in
        let at : Stands later heard =
        with-stands later servers message.to (λ server. server_after (next_wanting wanting) server ask) peer (λ server own. own) e
        (with-changed w servers message.to (server_after (next_wanting wanting) peer ask) answers with.own with.others) in
        let last = comes-back later reply lost refl at in
        (last.0, run-on w later last.0 (Goes_on w later Stays step) last.1, last.2)

-- ---- a line that delivers

pub deliver-run : (w : World) (servers : List Server) (wanting : List Bool) (line : ℕ) (sender : List ℕ) (n : ℕ) (fresh : List ℕ) (lost : Bool) → Stands w servers
    → Reaches w (λ later. Stands later (deliver wanting servers line sender n fresh lost).world)
deliver-run w servers wanting line sender n fresh lost stands = by_case (server_at servers sender) refl
  where
    given : Option Numbered → Run
    given o = option_map_or (delivered wanting servers line sender fresh lost) o (nothing servers line)

    by_message : (server : Server) → With servers sender server w → (o : Option Message) → at_number (out server.host (kept server.host (history server))) n ≡ o
        → Reaches w (λ later. Stands later (given (option_map (λ message. as_sent (n, message)) o)).world)
    by_message server with None none = stays _ w stands
    by_message server with (Some message) there =
        let sent : HasSent w sender n message = (session_of server, with.here, subst (λ h. at_number (out h (kept h (history server))) n ≡ Some message) with.own there) in
        delivered-run w servers wanting line sender fresh lost n message sent stands

    by_case : (o : Option Server) → server_at servers sender ≡ o → Reaches w (λ later. Stands later (given (option_and_then (λ server. message_of server n) o)).world)
    by_case None none = stays _ w stands
    by_case (Some server) there = by_message server (with-server w servers sender server stands there) (at_number (out server.host (kept server.host (history server))) n) refl

-- ---- all that are due

all-delivered-run : (w : World) (servers : List Server) (wanting : List Bool) (line : ℕ) (sender fresh : List ℕ) (place : ℕ) (messages : List Numbered) → IsAlone w → HasSentAll w sender messages → Stands w servers
    → Reaches w (λ later. Stands later (all_delivered wanting servers line sender fresh place messages).world)
all-delivered-run w servers wanting line sender fresh place [] reached sent stands = stays _ w stands
all-delivered-run w servers wanting line sender fresh place (m ∷ messages) reached ((n, message, same, one), rest) stands =
    let first : List Server = (delivered wanting servers line sender (fresh_plus fresh place) false m).world in
    reaches-on (λ later. Stands later first) _ w
    (subst (λ x. Reaches w (λ later. Stands later (delivered wanting servers line sender (fresh_plus fresh place) false x).world)) (sym same)
    (delivered-run w servers wanting line sender (fresh_plus fresh place) false n message one stands))
    (λ mid run at.
    all-delivered-run mid first (others_wanting (others_wanting wanting)) line sender fresh (place + 1) messages (run-on empty w mid reached run) (all-sent-on w mid sender messages reached run rest) at)

-- what is due is delivered
due-run : (w : World) (servers : List Server) (wanting : List Bool) (line : ℕ) (sender fresh : List ℕ) (messages : List Numbered) → IsAlone w → HasSentAll w sender messages → Stands w servers
    → Reaches w (λ later. Stands later (pumped wanting servers line sender fresh (replies.Due messages)).world)
due-run w servers wanting line sender fresh [] reached sent stands = stays _ w stands
due-run w servers wanting line sender fresh (m ∷ messages) reached sent stands = all-delivered-run w servers wanting line sender fresh 0 (m ∷ messages) reached sent stands

pub pump-run : (w : World) (servers : List Server) (wanting : List Bool) (line : ℕ) (sender fresh : List ℕ) → IsAlone w → Stands w servers
    → Reaches w (λ later. Stands later (pump wanting servers line sender fresh).world)
pump-run w servers wanting line sender fresh reached stands = by_case (server_at servers sender) refl
  where
    told : Bool → Reply → Run
    told b reply = pumped (others_wanting wanting) (asked_at b servers sender asks.Due) line sender fresh reply

    by_reply : (b : Bool) (server : Server) → With servers sender server w → Reaches w (λ later. Stands later (told b (reply_of b server asks.Due)).world)
    by_reply true server with = asked-run w servers sender true asks.Due refl stands
    by_reply false server with =
        let all : List Message = out server.host (kept server.host (history server)) in
        let p = is_due (is_settled (kept server.host (history server))) (numbered_from 1 all) in
        let messages : List Numbered = map as_sent (filter p (numbered_from 1 all)) in
        let sent : HasSentAll w sender messages =
        subst (λ h. HasSentAll w sender (map as_sent (filter p (numbered_from 1 (out h (kept h (history server))))))) (sym with.own) (told-sent w sender (session_of server) p with.here) in
        reaches-on (λ later. Stands later (asked_at false servers sender asks.Due)) _ w (asked-run w servers sender false asks.Due refl stands)
        (λ mid run at. due-run mid (asked_at false servers sender asks.Due) (others_wanting wanting) line sender fresh messages (run-on empty w mid reached run) (all-sent-on w mid sender messages reached run sent) at)

    by_case : (o : Option Server) → server_at servers sender ≡ o
        → Reaches w (λ later. Stands later (option_map_or (told (next_wanting wanting)) (option_map (λ server. reply_of (next_wanting wanting) server asks.Due) o) (record { world = servers; text = [] })).world)
    by_case None none = stays _ w stands
    by_case (Some server) there = by_reply (next_wanting wanting) server (with-server w servers sender server stands there)
