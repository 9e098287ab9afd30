-- A transcript, cut at a line; and what a line prints that asks something.
use Rattle.std.proofs.Common.{◌≡◌, ℕ, ◌+◌, List, [], ◌∷◌, ◌++◌, length, Bool, refl, sym, ap, ◌∙◌, subst, arith, append_assoc, Some}
use Rattle.std.specs.Prelude.{option_map}
use Rattle.ocm_entry.specs.declared.asks.Ask.{Ask}
use Rattle.ocm_entry.specs.declared.replies.Reply.{Reply}
use Rattle.ocm_law_sessions.specs.Sessions.{IsReply}
use Rattle.ocm_transcript.specs.Texts.{reply_lines}
use Rattle.ocm_script.specs.Events.{host_of}
use Rattle.ocm_script.specs.declared.events.Event.{Event}
use Rattle.ocm_script.specs.declared.events.Event.TheVariants.{Node, Clock, Raw, Deliver, Pump, Fuse, Crash}
use Rattle.ocm_script_run.specs.Asked.{ask_of, shows_digits}
use Rattle.ocm_script_run.specs.Deliveries as lines
use Rattle.ocm_script_run.specs.Deliveries.{next_wanting}
use Rattle.ocm_script_run.specs.Servers.{Server, area, reply_of, server_after, server_at, with_call}
use Rattle.ocm_script_run.specs.Transcript.{IsRun, Transcript, asked, plain, run}
use Rattle.ocm_law_runs.specs.Promises.{AtLine, Between}
use Rattle.ocm_law_runs.proofs.Finding.{has-host, stepped-here}
use Rattle.ocm_law_runs.proofs.Replies.{reply-legal}
use Rattle.ocm_law_runs.proofs.Transcripts.{told-text}

-- ---- cuts

pub cut : (before after : List Event) (text : List ℕ) (servers final : List Server) (number : ℕ) → Transcript servers number (before ++ after) text final → Between servers number before after text final
cut [] after text servers final number transcript =
    let P : ℕ → Type 0 = λ n. Transcript servers n after text final in
    let none : number ≡ number + 0 = omega arith in
    record { servers = servers; front = []; rest = text; leads = (refl, refl); goes_on = subst P none transcript; split = refl }
cut (e ∷ before) after text servers final number (line, rest, is, printed, more) =
    let c = cut before after rest line.world final (number + 1) more in
    let P : ℕ → Type 0 = λ n. Transcript c.servers n after c.rest final in
    let one : number + 1 + length before ≡ number + length (e ∷ before) = omega arith in
    record {
      servers = c.servers;
      front = line.text ++ c.front;
      rest = c.rest;
      leads = (line, c.front, is, refl, c.leads);
      goes_on = subst P one c.goes_on;
      split = printed ∙ ap (λ t. line.text ++ t) c.split ∙ sym (append_assoc line.text c.front c.rest);
    }

-- a line at its place
pub at-line : (before after : List Event) (e : Event) (text : List ℕ) (servers final : List Server) (number : ℕ) → Transcript servers number (before ++ e ∷ after) text final → AtLine servers number before e after text final
at-line before after e text servers final number transcript =
    let c = cut before (e ∷ after) text servers final number transcript in
    record {
      servers = c.servers;
      line = c.goes_on.0;
      front = c.front;
      rest = c.goes_on.1;
      leads = c.leads;
      is = c.goes_on.2;
      goes_on = c.goes_on.4;
      split = c.split ∙ ap (λ t. c.front ++ t) c.goes_on.3;
    }

-- ---- lines that ask

-- a line that asks something is no connection
plain-line : (servers : List Server) (number : ℕ) (e : Event) (ask : Ask) (line : lines.Run) → ask_of e ≡ Some ask → IsRun servers number e line → (wanting : List Bool) × (line ≡ run wanting servers number e)
plain-line servers number (Raw host fresh bytes) ask line is ran = absurd (cc)
plain-line servers number _ ask line is ran = ran

-- and asks its server
plain-run : (wanting : List Bool) (servers : List Server) (number : ℕ) (e : Event) (ask : Ask) → ask_of e ≡ Some ask → run wanting servers number e ≡ plain (next_wanting wanting) servers number e (host_of e) (ask_of e)
plain-run wanting servers number (Node host) ask is = absurd (cc)
plain-run wanting servers number (Clock host clock) ask is = absurd (cc)
plain-run wanting servers number (Deliver host m fresh lost) ask is = absurd (cc)
plain-run wanting servers number (Pump host fresh) ask is = absurd (cc)
plain-run wanting servers number (Fuse host calls) ask is = absurd (cc)
plain-run wanting servers number (Crash host left) ask is = absurd (cc)
plain-run wanting servers number _ ask is = refl

-- what it prints, and what it leaves
pub record Told (servers : List Server) (number : ℕ) (host : List ℕ) (server : Server) (e : Event) (ask : Ask) (line : lines.Run) : Type 0 where
  pub reply : Reply
  pub allowed : IsReply host area server.base server.calls ask reply
  pub prints : line.text ≡ reply_lines number (shows_digits e) reply
  pub after : server_at line.world host ≡ Some (with_call server ask reply)

pub told-line : (servers : List Server) (number : ℕ) (host : List ℕ) (server : Server) (e : Event) (ask : Ask) (line : lines.Run) → server_at servers host ≡ Some server → host_of e ≡ Some host → ask_of e ≡ Some ask → IsRun servers number e line
    → Told servers number host server e ask line
told-line servers number host server e ask line there at is ran =
    let made = plain-line servers number e ask line is ran in
    let b = next_wanting made.0 in
    let same : line ≡ asked b servers number (shows_digits e) host ask =
    made.1 ∙ plain-run made.0 servers number e ask is
    ∙ ap (λ o. plain b servers number e o (ask_of e)) at ∙ ap (λ o. plain b servers number e (Some host) o) is in
    record {
      reply = reply_of b server ask;
      allowed = reply-legal b server host ask (has-host servers host server there);
      prints = ap (λ (l : lines.Run). l.text) same ∙ told-text number (shows_digits e) b servers host ask server there;
      after = ap (λ (l : lines.Run). server_at l.world host) same ∙ stepped-here (λ s. server_after b s ask) servers host (λ s own. own) ∙ ap (option_map (λ s. server_after b s ask)) there;
    }
