-- Requests for files, and repeats, in a transcript.
use Rattle.std.proofs.Common.{◌≡◌, ℕ, ◌+◌, List, [], ◌∷◌, ◌++◌, length, true, false, sym, ap, ◌∙◌, subst, Option, Some}
use Rattle.ocm_entry.specs.declared.asks.Ask.{Ask}
use Rattle.ocm_rules.proofs.Searches.{some-same}
use Rattle.ocm_law_repeats.specs.Repeats.{is_for_records, is_repeat}
use Rattle.ocm_entry.specs.declared.rows.Share.{Share}
use Rattle.ocm_law_sessions.specs.Sessions.{would_change}
use Rattle.ocm_law_sessions.proofs.Replying.{session-legal}
use Rattle.ocm_law_served.specs.Requests.{FileRequest, ask_with}
use Rattle.ocm_law_served.proofs.Answering.{answered-so}
use Rattle.ocm_script.specs.Events.{host_of}
use Rattle.ocm_script_run.specs.Asked.{ask_of}
use Rattle.ocm_law_world.specs.World.{Session, empty}
use Rattle.ocm_law_world.proofs.Steps.{alone-reached}
use Rattle.std.specs.Prelude.{option_map}
use Rattle.ocm_law_openings.specs.Openings.{GoOn, Period}
use Rattle.ocm_law_openings.specs.Worlds.{IsLife}
use Rattle.ocm_law_openings.proofs.Promises.{keeps-life, keeps-on}
use Rattle.ocm_law_openings.proofs.Lives.{LivesOn, lives-along, lives-reached, repeat-along}
use Rattle.ocm_script.specs.declared.events.Event.{Event}
use Rattle.ocm_script.specs.declared.events.Event.TheVariants.{Raw}
use Rattle.ocm_script_run.specs.Servers.{Server, area, history, server_at}
use Rattle.ocm_script_run.specs.Deliveries as lines
use Rattle.ocm_script_run.specs.Talks.{IsTalk, config_of}
use Rattle.ocm_script_run.specs.Transcript.{IsRun, Talked, Transcript}
use Rattle.ocm_law_runs.specs.Promises.{AtLine, Between, ConnectionsAreServed, EndsLast, LinesAreServed, PrintsServed, Promised, ServersKeep, ServersLast, TalksServed}
use Rattle.ocm_law_runs.specs.Standing.{IsEnded, IsRefused, RefusesRequests, Stands, UsesSecret, session_of}
use Rattle.ocm_law_runs.proofs.Cutting.{at-line, cut, told-line}
use Rattle.ocm_law_runs.proofs.Finding.{Keeps, has-host, stepped-here}
use Rattle.ocm_law_runs.proofs.Lines.{transcript-run}
use Rattle.ocm_law_runs.proofs.Replying.{after-host, calls-served}
use Rattle.ocm_law_runs.proofs.Steps.{run-on}
use Rattle.ocm_law_runs.proofs.Transcripts.{confirmed-made, ended-further, ended-on, reached-from, refused-line, refused-requests, server-of, session-at, session-of-transcript}

-- the life of a server
pub life-of : (events : List Event) (text : List ℕ) (servers : List Server) (host : List ℕ) (server : Server) → Transcript [] 1 events text servers → server_at servers host ≡ Some server → (ps : List Period) × IsLife host (session_of server) ps
life-of events text servers host server transcript there =
    let at = reached-from events text servers transcript in
    lives-reached at.0 (alone-reached at.0 at.1) host (session_of server) (session-at at.0 servers host server at.2 there)

-- it goes on
pub record LivesAt (final : List Server) (host : List ℕ) (ps : List Period) : Type 0 where
  pub later : Server
  pub there : server_at final host ≡ Some later
  pub life : List Period
  pub is : IsLife host (session_of later) life
  pub on : GoOn ps life

pub life-on : (events further : List Event) (text more : List ℕ) (servers final : List Server) (number : ℕ) (host : List ℕ) (server : Server) (ps : List Period)
    → Transcript [] 1 events text servers → Transcript servers number further more final → server_at servers host ≡ Some server → IsLife host (session_of server) ps → LivesAt final host ps
life-on events further text more servers final number host server ps transcript goes_on there life =
    let at = reached-from events text servers transcript in
    let later = transcript-run at.0 servers final number further more at.1 at.2 goes_on in
    let on : LivesOn later.0 host ps = lives-along at.0 later.0 host (session_of server) ps later.1 (session-at at.0 servers host server at.2 there) life in
    let found = server-of later.0 final host on.0 later.2 on.1 in
    let P : Session → Type 0 = λ s. IsLife host s on.2.0 in
    record { later = found.0; there = found.1; life = on.2.0; is = subst P (sym found.2) on.2.1; on = on.2.2 }

-- a repeat changes nothing
pub repeat-in_script : (events further : List Event) (text more : List ℕ) (servers final : List Server) (number : ℕ) (host : List ℕ) (server later : Server) (ask : Ask)
    → Transcript [] 1 events text servers → Transcript servers number further more final → server_at servers host ≡ Some server → server_at final host ≡ Some later
    → is_repeat (history server) ask ≡ true → is_for_records ask ≡ false → would_change host (history later) ask ≡ false
repeat-in_script events further text more servers final number host server later ask transcript goes_on there now taken other =
    let life = life-of events text servers host server transcript there in
    let on = life-on events further text more servers final number host server life.0 transcript goes_on there life.1 in
    let same = some-same on.later later (sym on.there ∙ now) in
    let P : Server → Type 0 = λ s. would_change host (history s) ask ≡ false in
    subst P same (repeat-along host (session_of server) (session_of on.later) life.0 on.life ask life.1 on.is on.on taken other)

-- ---- what is promised of a script

servers-keep : (events : List Event) (text : List ℕ) (final : List Server) → Transcript [] 1 events text final → ServersKeep final
servers-keep events text final transcript host server there =
    let life = life-of events text final host server transcript there in
    keeps-life host (session_of server) life.0 life.1

servers-last : (events : List Event) (text : List ℕ) (final : List Server) → Transcript [] 1 events text final → ServersLast events text final
servers-last events text final transcript before after same =
    let P : List Event → Type 0 = λ l. Transcript [] 1 l text final in
    let place = cut before after text [] final 1 (subst P same transcript) in (
      place,
      λ host server ps there life.
          let on = life-on before after place.front place.rest place.servers final (1 + length before) host server ps place.leads place.goes_on there life in
          let gone = keeps-on host (session_of on.later) ps on.life on.is on.on in
          (on.later, on.there, gone.p, gone.older, gone.life, gone.on, gone.keeps),
    )

prints-served : (before : List Event) (front : List ℕ) (servers : List Server) (number : ℕ) (e : Event) (line : lines.Run) (host secret : List ℕ) (request : FileRequest)
    → Transcript [] 1 before front servers → IsRun servers number e line → host_of e ≡ Some host → ask_of e ≡ Some (ask_with secret request) → PrintsServed servers number e line host secret request
prints-served before front servers number e line host secret request leads is at asks server there =
    let told = told-line servers number host server e (ask_with secret request) line there at asks is in
    let session = session-of-transcript before front servers host server leads there in
    (told.reply, answered-so host area server.base server.calls secret request told.reply (session-legal host area server.base server.calls session) told.allowed, told.prints)

lines-served : (events : List Event) (text : List ℕ) (final : List Server) → Transcript [] 1 events text final → LinesAreServed events text final
lines-served events text final transcript before after e host secret request same at asks =
    let P : List Event → Type 0 = λ l. Transcript [] 1 l text final in
    let place = at-line before after e text [] final 1 (subst P same transcript) in
    (place, prints-served before place.front place.servers (1 + length before) e place.line host secret request place.leads place.is at asks)

talks-served : (before : List Event) (front : List ℕ) (servers : List Server) (number : ℕ) (host fresh bytes : List ℕ) (line : lines.Run) → Transcript [] 1 before front servers → IsRun servers number (Raw host fresh bytes) line → TalksServed servers number host fresh bytes line
talks-served before front servers number host fresh bytes line leads is server there =
    let P : Option Server → Type 0 = λ o. Talked servers number host fresh bytes o line in
    let talked : Talked servers number host fresh bytes (Some server) line = subst P there is in
    let own = has-host servers host server there in
    let Q : List ℕ → Type 0 = λ t. IsTalk (config_of server.host) number fresh 0 0 bytes server talked.0 t in
    let same : talked.1 ≡ line.text = sym (ap (λ (l : lines.Run). l.text) talked.3) in
    let talk : IsTalk (config_of server.host) number fresh 0 0 bytes server talked.0 line.text = subst Q same talked.2 in
    let keeps : Keeps (λ s. talked.0) host = λ s known. ap (λ (x : Server). x.host) talk.is_after ∙ after-host server talk.calls ∙ own in
    let stays : server_at line.world host ≡ Some talked.0 = ap (λ (l : lines.Run). server_at l.world host) talked.3 ∙ stepped-here (λ s. talked.0) servers host keeps ∙ ap (option_map (λ (s : Server). talked.0)) there in
    (talked.0, talk, stays, calls-served host server talk.calls own (session-of-transcript before front servers host server leads there) talk.replies)

connections-served : (events : List Event) (text : List ℕ) (final : List Server) → Transcript [] 1 events text final → ConnectionsAreServed events text final
connections-served events text final transcript before after host fresh bytes same =
    let P : List Event → Type 0 = λ l. Transcript [] 1 l text final in
    let place = at-line before after (Raw host fresh bytes) text [] final 1 (subst P same transcript) in
    (place, talks-served before place.front place.servers (1 + length before) host fresh bytes place.line place.leads place.is)

ends-last : (events : List Event) (text : List ℕ) (final : List Server) → Transcript [] 1 events text final → EndsLast events text final
ends-last events text final transcript before after same =
    let P : List Event → Type 0 = λ l. Transcript [] 1 l text final in
    let place = cut before after text [] final 1 (subst P same transcript) in
    (place, λ host i m ended. (ended-further before after place.front place.rest place.servers final (1 + length before) host i m place.leads place.goes_on ended, refused place host i m ended))
  where
    refused : (place : Between [] 1 before after text final) (host : List ℕ) (i : ℕ) (m : Share) → IsEnded place.servers host i m
        → (between behind : List Event) (e : Event) → after ≡ between ++ e ∷ behind
        → (at : AtLine place.servers (1 + length before) between e behind place.rest final)
        × (UsesSecret host m.secret e → IsRefused (1 + length before + length between) at.line)
        × RefusesRequests at.servers (1 + length before + length between) host m.secret
    refused place host i m ended between behind e split =
        let Q : List Event → Type 0 = λ l. Transcript place.servers (1 + length before) l place.rest final in
        let at = at-line between behind e place.rest place.servers final (1 + length before) (subst Q split place.goes_on) in
        let w = reached-from before place.front place.servers place.leads in
        let later = transcript-run w.0 place.servers at.servers (1 + length before) between at.front w.1 w.2 at.leads in
        let still = ended-on w.0 place.servers at.servers (1 + length before) between at.front host i m w.1 w.2 at.leads ended in
        let reached = run-on empty w.0 later.0 w.1 later.1 in (
          at,
          λ uses. refused-line later.0 at.servers (1 + length before + length between) host i m e at.line reached later.2 still uses at.is,
          refused-requests later.0 at.servers (1 + length before + length between) host i m reached later.2 still,
        )

pub promised : (events : List Event) (text : List ℕ) (final : List Server) → Transcript [] 1 events text final → Promised events text final
promised events text final transcript = record {
  servers = servers-keep events text final transcript;
  lasts = servers-last events text final transcript;
  lines = lines-served events text final transcript;
  connections = connections-served events text final transcript;
  guests = λ host server n offer there taken confirmed. confirmed-made events text final host server n offer transcript there taken confirmed;
  ends = ends-last events text final transcript;
}
