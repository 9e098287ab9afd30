-- The lines of a script are runs.
use Rattle.std.proofs.Common.{◌≡◌, ℕ, ◌+◌, List, [], ◌∷◌, Bool, true, false, refl, sym, subst, Option, Some, None, Ok, Err}
use Rattle.ocm_entry.specs.declared.asks.Ask.{Ask}
use Rattle.ocm_entry.specs.declared.asks.Ask.TheVariants.{Tick}
use Rattle.ocm_law_world.specs.World.{World, empty, is_settlement}
use Rattle.ocm_script.specs.declared.events.Event.{Event}
use Rattle.ocm_script.specs.declared.events.Event.TheVariants.{Quiet, Node, User, Local, Dav, Put, Carry, Clock, Offer, Notice, Raw, Deliver, Pump, Fuse, Crash}
use Rattle.ocm_script_run.specs.Deliveries as lines
use Rattle.ocm_script_run.specs.Deliveries.{next_wanting}
use Rattle.ocm_script_run.specs.Servers.{Server, is_kept, server_at, step_at}
use Rattle.ocm_script_run.specs.Talks.{bytes_alone, config_of}
use Rattle.ocm_script_run.specs.Transcript.{IsRun, Talked, Transcript, plain, run}
use Rattle.ocm_law_runs.specs.Standing.{Stands}
use Rattle.ocm_law_runs.proofs.Asking.{asked-run, crashes-run, named-run}
use Rattle.ocm_law_runs.proofs.Delivering.{deliver-run, pump-run}
use Rattle.ocm_law_runs.proofs.Steps.{IsAlone, Reaches, With, reaches-on, run-on, stands-same, stays, with-server, with-stands}
use Rattle.ocm_law_runs.proofs.Talking.{calls-run, talk-plain}

-- ---- lines that ask

-- an ask, if there is one, settles no message
abbrev IsPlain : Option Ask → Type 0
IsPlain None = Unit {0}
IsPlain (Some ask) = is_settlement ask ≡ false

plain-run : (w : World) (servers : List Server) (wanting : Bool) (number : ℕ) (e : Event) (host : Option (List ℕ)) (ask : Option Ask) → IsPlain ask → Stands w servers
    → Reaches w (λ later. Stands later (plain wanting servers number e host ask).world)
plain-run w servers wanting number e None ask is stands = stays _ w stands
plain-run w servers wanting number e (Some host) None is stands = stays _ w stands
plain-run w servers wanting number e (Some host) (Some ask) is stands = asked-run w servers host wanting ask is stands

-- ---- connections

talked-run : (w : World) (servers : List Server) (number : ℕ) (host fresh bytes : List ℕ) (o : Option Server) (line : lines.Run) → server_at servers host ≡ o → Stands w servers
    → Talked servers number host fresh bytes o line → Reaches w (λ later. Stands later line.world)
talked-run w servers number host fresh bytes None line none stands same = subst (λ (l : lines.Run). Reaches w (λ later. Stands later l.world)) (sym same) (stays _ w stands)
talked-run w servers number host fresh bytes (Some server) line there stands (after, text, says, same) =
    let plain = talk-plain (config_of server.host) bytes_alone 0 0 bytes true says.drawn says.clocks says.calls says.written says.ending refl says.talk in
    let at = calls-run w servers host server says.calls plain says.replies (with-server w servers host server stands there) in
    let with : With servers host after at.0 = subst (λ (s : Server). With servers host s at.0) (sym says.is_after) at.2 in
    subst (λ (l : lines.Run). Reaches w (λ later. Stands later l.world)) (sym same)
    (at.0, at.1, with-stands at.0 servers host (λ _. after) server (λ s own. with.own) there with)

-- ---- one line

made-run : (w : World) (servers : List Server) (number : ℕ) (wanting : List Bool) (e : Event) → IsAlone w → Stands w servers → Reaches w (λ later. Stands later (run wanting servers number e).world)
made-run w servers number wanting Quiet reached stands = plain-run w servers (next_wanting wanting) number Quiet None None tt stands
made-run w servers number wanting (Node host) reached stands = named-run w servers host reached stands
made-run w servers number wanting (User host name fresh) reached stands = asked-run w servers host (next_wanting wanting) _ refl stands
made-run w servers number wanting (Local host key cmd) reached stands = asked-run w servers host (next_wanting wanting) _ refl stands
made-run w servers number wanting (Dav host secret method path) reached stands = asked-run w servers host (next_wanting wanting) _ refl stands
made-run w servers number wanting (Put host secret path body) reached stands = asked-run w servers host (next_wanting wanting) _ refl stands
made-run w servers number wanting (Carry host secret from to moving overwrite) reached stands = asked-run w servers host (next_wanting wanting) _ refl stands
made-run w servers number wanting (Clock host clock) reached stands =
    asked-run w (step_at (λ server. record server { clock = clock }) servers host) host (next_wanting wanting) (Tick clock) refl
    (stands-same w servers host (λ server. record server { clock = clock }) (λ server own. own) (λ server. refl) stands)
made-run w servers number wanting (Offer host (Ok offer)) reached stands = asked-run w servers host (next_wanting wanting) _ refl stands
made-run w servers number wanting (Offer host (Err fault)) reached stands = stays _ w stands
made-run w servers number wanting (Notice host fresh (Ok notice)) reached stands = asked-run w servers host (next_wanting wanting) _ refl stands
made-run w servers number wanting (Notice host fresh (Err fault)) reached stands = stays _ w stands
made-run w servers number wanting (Raw host fresh bytes) reached stands = stays _ w stands
made-run w servers number wanting (Deliver host m fresh lost) reached stands = deliver-run w servers wanting number host m fresh lost stands
made-run w servers number wanting (Pump host fresh) reached stands = pump-run w servers wanting number host fresh reached stands
made-run w servers number wanting (Fuse host calls) reached stands =
    stays _ w (stands-same w servers host (λ server. record server { fuse = Some calls }) (λ server own. own) (λ server. refl) stands)
made-run w servers number wanting (Crash host left) reached stands = crashes-run w servers host (λ s. is_kept left s.cut) reached stands

pub line-run : (w : World) (servers : List Server) (number : ℕ) (e : Event) (line : lines.Run) → IsAlone w → Stands w servers → IsRun servers number e line → Reaches w (λ later. Stands later line.world)
line-run w servers number (Raw host fresh bytes) line reached stands talked = talked-run w servers number host fresh bytes (server_at servers host) line refl stands talked
line-run w servers number e line reached stands (wanting, same) = subst (λ (l : lines.Run). Reaches w (λ later. Stands later l.world)) (sym same) (made-run w servers number wanting e reached stands)

-- ---- all lines

pub transcript-run : (w : World) (servers final : List Server) (number : ℕ) (events : List Event) (text : List ℕ) → IsAlone w → Stands w servers → Transcript servers number events text final
    → Reaches w (λ later. Stands later final)
transcript-run w servers final number [] text reached stands (none, same) = stays _ w (subst (Stands w) (sym same) stands)
transcript-run w servers final number (e ∷ events) text reached stands (line, rest, is, printed, more) =
    reaches-on (λ later. Stands later line.world) (λ later. Stands later final) w (line-run w servers number e line reached stands is)
    (λ mid run at. transcript-run mid line.world final (number + 1) events rest (run-on empty w mid reached run) at more)
