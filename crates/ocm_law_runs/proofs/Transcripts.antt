-- The laws of all runs, of the servers of a transcript.
use Rattle.std.proofs.Common.{◌≡◌, ℕ, List, [], ◌∷◌, Bool, true, false, refl, sym, ap, ◌∙◌, subst, Option, Some, None, ◌⊎◌}
use Rattle.std.specs.Prelude.{codes, option_map}
use Rattle.std.specs.Option.{option_map_or}
use mathlib.Core.Logic.{inl, inr}
use Rattle.ocm_types.specs.declared.letters.Offer.{Offer}
use Rattle.ocm_types.specs.declared.phases.Phase.TheVariants.{Confirmed}
use Rattle.ocm_entry.specs.declared.asks.Ask.{Ask}
use Rattle.ocm_entry.specs.declared.asks.Ask.TheVariants as asks
use Rattle.ocm_entry.specs.declared.asks.Cmd.TheVariants.{Unshare}
use Rattle.ocm_entry.specs.declared.asks.Method.TheVariants as methods
use Rattle.ocm_entry.specs.declared.entries.Entry.{Entry}
use Rattle.ocm_entry.specs.declared.refusals.Why.TheVariants.{Unauthorized}
use Rattle.ocm_entry.specs.declared.replies.Reply.{Reply}
use Rattle.ocm_entry.specs.declared.replies.Reply.TheVariants.{Done, NoMemory}
use Rattle.ocm_entry.specs.declared.rows.Share.{Share}
use Rattle.ocm_rules.specs.Answers.{refused}
use Rattle.ocm_rules.specs.History.{answer, kept}
use Rattle.ocm_rules.specs.Messages.{phase, view_of}
use Rattle.ocm_rules.specs.Numbers.{at_number}
use Rattle.ocm_rules.specs.Offers.{is_confirmed, offers}
use Rattle.ocm_rules.specs.Shares.{is_live, made}
use Rattle.ocm_rules.proofs.Searches.{some-same}
use Rattle.ocm_law_grants.proofs.Revoked.{unshared-ended}
use Rattle.ocm_law_grants.specs.Revocation.{is_at_or_below}
use Rattle.ocm_law_sessions.specs.Sessions.{IsReply, IsSession, fault_in}
use Rattle.ocm_law_sessions.proofs.Replying.{reply-given}
use Rattle.ocm_law_world.specs.Ends as ends
use Rattle.ocm_law_world.specs.Guests as guests
use Rattle.ocm_law_world.specs.World as worlds
use Rattle.ocm_law_world.specs.World.{Run, Session, World, empty}
use Rattle.ocm_law_world.specs.World.Run.{Stays}
use Rattle.ocm_law_world.proofs.Laws.{ended-later, refused-carry, refused-read}
use Rattle.ocm_law_world.proofs.Reached.{guest}
use Rattle.ocm_law_world.proofs.Steps.{alone-ours, alone-reached, sessions-reached}
use Rattle.ocm_transcript.specs.Texts.{line_text, reply_lines}
use Rattle.ocm_script.specs.Events.{bytes_of}
use Rattle.ocm_script.specs.declared.events.Event.{Event}
use Rattle.ocm_script.specs.declared.events.Event.TheVariants.{Carry, Dav, Local, Put}
use Rattle.ocm_script_run.specs.Asked.{shows_digits}
use Rattle.ocm_script_run.specs.Deliveries as lines
use Rattle.ocm_script_run.specs.Deliveries.{next_wanting}
use Rattle.ocm_script_run.specs.Servers.{Server, area, asked_at, history, reply_of, server_after, server_at}
use Rattle.ocm_script_run.specs.Talks.{bytes_alone, config_of}
use Rattle.ocm_script_run.specs.Transcript.{IsRun, Transcript, asked}
use Rattle.ocm_law_runs.specs.Standing.{IsEnded, IsMade, IsRefused, RefusesRequests, Stands, UsesSecret, kept_at, session_of}
use Rattle.ocm_law_runs.proofs.Finding.{has-host, stepped-here}
use Rattle.ocm_law_runs.proofs.Lines.{line-run, transcript-run}
use Rattle.ocm_law_runs.proofs.Printing.{end-done, no_memory-text, unauthorized-text, unshare-reply}
use Rattle.ocm_law_runs.proofs.Replies.{reply-legal}
use Rattle.ocm_law_runs.proofs.Steps.{IsAlone, run-on, with-server}
use Rattle.ocm_law_runs.proofs.Talking.{calls-refused, talk-plain, talk-refused}

-- no servers, and no sessions
pub reached-from : (events : List Event) (text : List ℕ) (final : List Server) → Transcript [] 1 events text final → (w : World) × IsAlone w × Stands w final
reached-from events text final transcript = transcript-run empty [] final 1 events text Stays (λ host. refl) transcript

-- ---- from a world to the servers that it stands for, and back

-- a session is that of a server
pub server-of : (w : World) (servers : List Server) (host : List ℕ) (s : Session) → Stands w servers → w.session host ≡ Some s → (server : Server) × (server_at servers host ≡ Some server) × (session_of server ≡ s)
server-of w servers host s stands is = by_case (server_at servers host) refl
  where
    by_case : (o : Option Server) → server_at servers host ≡ o → (server : Server) × (server_at servers host ≡ Some server) × (session_of server ≡ s)
    by_case None none = absurd (let bad : None ≡ Some s = sym (stands host ∙ ap (option_map session_of) none) ∙ is in cc)
    by_case (Some server) there = (server, there, let same : Some (session_of server) ≡ Some s = sym (stands host ∙ ap (option_map session_of) there) ∙ is in cc)

pub session-at : (w : World) (servers : List Server) (host : List ℕ) (server : Server) → Stands w servers → server_at servers host ≡ Some server → w.session host ≡ Some (session_of server)
session-at w servers host server stands there = stands host ∙ ap (option_map session_of) there

-- what holds of a session holds of its server
abbrev Of : (Session → Type 0) → List Server → List ℕ → Type 0
Of P servers host = (server : Server) × (server_at servers host ≡ Some server) × P (session_of server)

of-session : (P : Session → Type 0) (w : World) (servers : List Server) (host : List ℕ) → Stands w servers → (s : Session) × (w.session host ≡ Some s) × P s → Of P servers host
of-session P w servers host stands (s, is, p) =
    let at = server-of w servers host s stands is in
    (at.0, at.1, subst P (sym at.2) p)

-- what a line prints that asks the server of a host
pub told-text : (number : ℕ) (shown b : Bool) (servers : List Server) (host : List ℕ) (ask : Ask) (server : Server) → server_at servers host ≡ Some server
    → (asked b servers number shown host ask).text ≡ reply_lines number shown (reply_of b server ask)
told-text number shown b servers host ask server there = ap (λ o. option_map_or (λ reply. reply_lines number shown reply) (option_map (λ s. reply_of b s ask) o) []) there

-- ---- histories

pub session-of-transcript : (events : List Event) (text : List ℕ) (final : List Server) (host : List ℕ) (server : Server) → Transcript [] 1 events text final → server_at final host ≡ Some server
    → IsSession host area server.base server.calls
session-of-transcript events text final host server transcript there =
    let at = reached-from events text final transcript in
    sessions-reached at.0 (alone-reached at.0 at.1) host (session_of server) (session-at at.0 final host server at.2 there)

-- ---- guests

pub confirmed-made : (events : List Event) (text : List ℕ) (final : List Server) (host : List ℕ) (server : Server) (n : ℕ) (offer : Offer) → Transcript [] 1 events text final → server_at final host ≡ Some server
    → at_number (offers (kept_at host server)) n ≡ Some offer → phase host (kept_at host server) n ≡ Confirmed → IsMade final offer
confirmed-made events text final host server n offer transcript there taken confirmed =
    let at = reached-from events text final transcript in
    of-session (λ s. guests.Makes (guests.view_at offer.owner.host s) offer) at.0 final offer.owner.host at.2
    (guest at.0 (alone-reached at.0 at.1) host (session_of server) (session-at at.0 final host server at.2 there) n offer taken (ap is_confirmed confirmed) (alone-ours at.0 at.1 offer.owner.host))

-- ---- ends

-- a share has ended in a world where it has at the servers
world-ended : (w : World) (servers : List Server) (host : List ℕ) (i : ℕ) (m : Share) → Stands w servers → IsEnded servers host i m → ends.IsEnded w host i m
world-ended w servers host i m stands (server, there, is, ended) = (session_of server, session-at w servers host server stands there, is, ended)

-- it has ended after all further lines
pub ended-on : (w : World) (servers final : List Server) (number : ℕ) (events : List Event) (text : List ℕ) (host : List ℕ) (i : ℕ) (m : Share) → IsAlone w → Stands w servers
    → Transcript servers number events text final → IsEnded servers host i m → IsEnded final host i m
ended-on w servers final number events text host i m reached stands goes_on ended =
    let later = transcript-run w servers final number events text reached stands goes_on in
    let last = ended-later w later.0 host i m (alone-reached w reached) later.1 (world-ended w servers host i m stands ended) in
    let found = of-session (λ s. (at_number (made host (worlds.kept_at host s)) i ≡ Some m) × (is_live host (worlds.kept_at host s) i ≡ false)) later.0 final host later.2 (last.0, last.1, (last.2, last.3)) in
    (found.0, found.1, found.2.0, found.2.1)

pub ended-further : (events further : List Event) (text more : List ℕ) (servers final : List Server) (number : ℕ) (host : List ℕ) (i : ℕ) (m : Share)
    → Transcript [] 1 events text servers → Transcript servers number further more final → IsEnded servers host i m → IsEnded final host i m
ended-further events further text more servers final number host i m transcript goes_on ended =
    let at = reached-from events text servers transcript in
    ended-on at.0 servers final number further more host i m at.1 at.2 goes_on ended

-- what a line prints whose ask is refused
refused-asked : (number : ℕ) (shown b : Bool) (servers : List Server) (host : List ℕ) (ask : Ask) (server : Server) → server_at servers host ≡ Some server
    → (IsReply host area server.base server.calls ask (reply_of b server ask) → (reply_of b server ask ≡ refused Unauthorized) ⊎ (reply_of b server ask ≡ NoMemory)) → IsRefused number (asked b servers number shown host ask)
refused-asked number shown b servers host ask server there law = by_reply (law (reply-legal b server host ask (has-host servers host server there)))
  where
    printed : (r : Reply) → reply_of b server ask ≡ r → (asked b servers number shown host ask).text ≡ reply_lines number shown r
    printed r told = told-text number shown b servers host ask server there ∙ ap (reply_lines number shown) told

    by_reply : (reply_of b server ask ≡ refused Unauthorized) ⊎ (reply_of b server ask ≡ NoMemory) → IsRefused number (asked b servers number shown host ask)
    by_reply (inl told) = inl (printed (refused Unauthorized) told ∙ unauthorized-text number shown)
    by_reply (inr told) = inr (printed NoMemory told ∙ no_memory-text number shown)

-- what a line prints that asks for files with its secret
pub refused-line : (w : World) (servers : List Server) (number : ℕ) (host : List ℕ) (i : ℕ) (m : Share) (e : Event) (line : lines.Run) → IsAlone w → Stands w servers
    → IsEnded servers host i m → UsesSecret host m.secret e → IsRun servers number e line → IsRefused number line
refused-line w servers number host i m (Dav h s method path) line reached stands ended (same_host, same_secret) is =
    let run = subst (λ x. IsRun servers number (Dav host x method path) line) same_secret (subst (λ x. IsRun servers number (Dav x s method path) line) same_host is) in
    subst (IsRefused number) (sym run.1)
    (refused-asked number (shows_digits (Dav host m.secret method path)) (next_wanting run.0) servers host (asks.Dav m.secret method path []) ended.0 ended.1
    (refused-read w host (session_of ended.0) i m method path [] _ (alone-reached w reached) (world-ended w servers host i m stands ended) (session-at w servers host ended.0 stands ended.1)))
refused-line w servers number host i m (Put h s path body) line reached stands ended (same_host, same_secret) is =
    let run = subst (λ x. IsRun servers number (Put host x path body) line) same_secret (subst (λ x. IsRun servers number (Put x s path body) line) same_host is) in
    subst (IsRefused number) (sym run.1)
    (refused-asked number true (next_wanting run.0) servers host (asks.Dav m.secret methods.Put path (bytes_of body)) ended.0 ended.1
    (refused-read w host (session_of ended.0) i m methods.Put path (bytes_of body) _ (alone-reached w reached) (world-ended w servers host i m stands ended) (session-at w servers host ended.0 stands ended.1)))
refused-line w servers number host i m (Carry h s from to moving overwrite) line reached stands ended (same_host, same_secret) is =
    let run = subst (λ x. IsRun servers number (Carry host x from to moving overwrite) line) same_secret (subst (λ x. IsRun servers number (Carry x s from to moving overwrite) line) same_host is) in
    subst (IsRefused number) (sym run.1)
    (refused-asked number true (next_wanting run.0) servers host (asks.Carry m.secret from to moving overwrite) ended.0 ended.1
    (refused-carry w host (session_of ended.0) i m from to moving overwrite _ (alone-reached w reached) (world-ended w servers host i m stands ended) (session-at w servers host ended.0 stands ended.1)))
refused-line w servers number host i m _ line reached stands ended uses is = absurd uses

pub ended-refused : (events : List Event) (text : List ℕ) (servers : List Server) (number : ℕ) (host : List ℕ) (i : ℕ) (m : Share) (e : Event) (line : lines.Run)
    → Transcript [] 1 events text servers → IsEnded servers host i m → UsesSecret host m.secret e → IsRun servers number e line → IsRefused number line
ended-refused events text servers number host i m e line transcript ended uses is =
    let at = reached-from events text servers transcript in
    refused-line at.0 servers number host i m e line at.1 at.2 ended uses is

-- what a `raw` line does that asks for files with its secret
pub refused-requests : (w : World) (servers : List Server) (number : ℕ) (host : List ℕ) (i : ℕ) (m : Share) → IsAlone w → Stands w servers → IsEnded servers host i m → RefusesRequests servers number host m.secret
refused-requests w servers number host i m reached stands ended server after fresh bytes text there line =
    let plain = talk-plain (config_of server.host) bytes_alone 0 0 bytes true line.drawn line.clocks line.calls line.written line.ending refl line.talk in
    let are = calls-refused servers host i m w server line.calls reached (world-ended w servers host i m stands ended) (with-server w servers host server stands there) plain line.replies in
    (are, talk-refused m.secret server line.talk line.replies are)

pub ended-requests : (events : List Event) (text : List ℕ) (servers : List Server) (number : ℕ) (host : List ℕ) (i : ℕ) (m : Share) → Transcript [] 1 events text servers → IsEnded servers host i m
    → RefusesRequests servers number host m.secret
ended-requests events text servers number host i m transcript ended =
    let at = reached-from events text servers transcript in
    refused-requests at.0 servers number host i m at.1 at.2 ended

-- ---- what an owner ended

-- after an `unshare` that was done, the share has ended, and each below it
done-ended : (servers : List Server) (b : Bool) (host key : List ℕ) (id i : ℕ) (m : Share) (first server : Server) → server_at servers host ≡ Some first → reply_of b first (asks.Local key (Unshare id)) ≡ Done
    → server_at (asked_at b servers host (asks.Local key (Unshare id))) host ≡ Some server → at_number (made host (kept_at host server)) i ≡ Some m → is_at_or_below host (kept_at host server) id i ≡ true
    → is_live host (kept_at host server) i ≡ false
done-ended servers b host key id i m first server there done_so after is below =
    subst (λ t. is_live host (kept_at host t) i ≡ false) same (live done_so (subst (λ t. is_at_or_below host (kept_at host t) id i ≡ true) (sym same) below))
  where
    ask : Ask
    ask = asks.Local key (Unshare id)

    same : server_after b first ask ≡ server
    same =
        some-same (server_after b first ask) server
        (sym (stepped-here (λ s. server_after b s ask) servers host (λ s own. own) ∙ ap (option_map (λ s. server_after b s ask)) there) ∙ after)

    answered : Reply → List Entry
    answered reply = kept host (record { ask = ask; reply = reply } ∷ history first)

    live : reply_of b first ask ≡ Done → is_at_or_below host (answered (reply_of b first ask)) id i ≡ true → is_live host (answered (reply_of b first ask)) i ≡ false
    live told under =
        subst (λ r. is_live host (answered r) i ≡ false) (sym told)
        (unshared-ended host (history first) key id i (subst (λ r. is_at_or_below host (answered r) id i ≡ true) told under))

-- an `unshare` that printed `204` was done
unshare-done : (number : ℕ) (b : Bool) (servers : List Server) (host key : List ℕ) (id : ℕ) (first : Server) → server_at servers host ≡ Some first
    → (asked b servers number true host (asks.Local key (Unshare id))).text ≡ line_text number (codes "204") → reply_of b first (asks.Local key (Unshare id)) ≡ Done
unshare-done number b servers host key id first there printed =
    end-done number (reply_of b first ask) (answer first.host (history first) ask) (unshare-reply (view_of first.host (kept first.host (history first))) key id)
    (reply-given first.host area (fault_in first.calls) (history first) ask (reply_of b first ask) (reply-legal b first first.host ask refl))
    (sym (told-text number true b servers host ask first there) ∙ printed)
  where
    ask : Ask
    ask = asks.Local key (Unshare id)

-- after an `unshare` that printed `204`, and further lines
unshared-later : (events further : List Event) (text more : List ℕ) (servers final : List Server) (number next : ℕ) (host key : List ℕ) (id i : ℕ) (server : Server) (m : Share) (unshare : lines.Run)
    → Transcript [] 1 events text servers → IsRun servers number (Local host key (Unshare id)) unshare → unshare.text ≡ line_text number (codes "204")
    → server_at unshare.world host ≡ Some server → at_number (made host (kept_at host server)) i ≡ Some m → is_at_or_below host (kept_at host server) id i ≡ true
    → Transcript unshare.world next further more final → (w : World) × IsAlone w × Stands w final × IsEnded final host i m
unshared-later events further text more servers final number next host key id i server m unshare transcript (wanting, same) printed after is below goes_on =
    let at = reached-from events text servers transcript in
    let mid = line-run at.0 servers number (Local host key (Unshare id)) unshare at.1 at.2 (wanting, same) in
    let reached = run-on empty at.0 mid.0 at.1 mid.1 in
    let later = transcript-run mid.0 unshare.world final next further more reached mid.2 goes_on in (
      later.0,
      run-on empty mid.0 later.0 reached later.1,
      later.2,
      ended-on mid.0 unshare.world final next further more host i m reached mid.2 goes_on (server, after, is, by_server (server_at servers host) refl),
    )
  where
    ask : Ask
    ask = asks.Local key (Unshare id)

    b : Bool
    b = next_wanting wanting

    there : server_at (asked_at b servers host ask) host ≡ Some server
    there = subst (λ (l : lines.Run). server_at l.world host ≡ Some server) same after

    by_server : (o : Option Server) → server_at servers host ≡ o → is_live host (kept_at host server) i ≡ false
    by_server None none =
        absurd (let bad : None ≡ Some server = sym (stepped-here (λ s. server_after b s ask) servers host (λ s own. own) ∙ ap (option_map (λ s. server_after b s ask)) none) ∙ there in cc)
    by_server (Some first) here =
        done-ended servers b host key id i m first server here
        (unshare-done number b servers host key id first here (sym (ap (λ (l : lines.Run). l.text) same) ∙ printed)) there is below

pub unshared-refused : (events further : List Event) (text more : List ℕ) (servers final : List Server) (number next place : ℕ) (host key : List ℕ) (id i : ℕ) (server : Server) (m : Share) (e : Event) (unshare line : lines.Run)
    → Transcript [] 1 events text servers → IsRun servers number (Local host key (Unshare id)) unshare → unshare.text ≡ line_text number (codes "204")
    → server_at unshare.world host ≡ Some server → at_number (made host (kept_at host server)) i ≡ Some m → is_at_or_below host (kept_at host server) id i ≡ true
    → Transcript unshare.world next further more final → UsesSecret host m.secret e → IsRun final place e line → IsRefused place line
unshared-refused events further text more servers final number next place host key id i server m e unshare line transcript run printed after is below goes_on uses asks_so =
    let later = unshared-later events further text more servers final number next host key id i server m unshare transcript run printed after is below goes_on in
    refused-line later.0 final place host i m e line later.1 later.2 later.3 uses asks_so

pub unshared-requests : (events further : List Event) (text more : List ℕ) (servers final : List Server) (number next place : ℕ) (host key : List ℕ) (id i : ℕ) (server : Server) (m : Share) (unshare : lines.Run)
    → Transcript [] 1 events text servers → IsRun servers number (Local host key (Unshare id)) unshare → unshare.text ≡ line_text number (codes "204")
    → server_at unshare.world host ≡ Some server → at_number (made host (kept_at host server)) i ≡ Some m → is_at_or_below host (kept_at host server) id i ≡ true
    → Transcript unshare.world next further more final → RefusesRequests final place host m.secret
unshared-requests events further text more servers final number next place host key id i server m unshare transcript run printed after is below goes_on =
    let later = unshared-later events further text more servers final number next host key id i server m unshare transcript run printed after is below goes_on in
    refused-requests later.0 final place host i m later.1 later.2 later.3
