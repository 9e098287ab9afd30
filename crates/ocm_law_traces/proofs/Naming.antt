-- The server that a run leaves at a host has a host's own text.
use Rattle.std.proofs.Common.{◌≡◌, ℕ, ◌+◌, List, [], ◌∷◌, true, sym, subst}
use Rattle.ocm_journal_audit.specs.Audits.{is_own_host}
use Rattle.ocm_script.specs.declared.events.Event.{Event}
use Rattle.ocm_script_run.specs.Servers.{Server, World}
use Rattle.ocm_script_run.specs.Traces.{Logged}
use Rattle.ocm_law_traces.specs.Texts.{HasSoundTexts, HaveSoundTexts}
use Rattle.ocm_law_traces.proofs.Keeping.{Has, Stays, kept-line}

-- a server whose host is its own text
abbrev pub IsNamed : Server → Type 0
IsNamed server = is_own_host server.host ≡ true

named-stays : Stays IsNamed
named-stays = record {
  asked = λ wanting server ask named. named;
  clocked = λ server clock named. named;
  fused = λ server calls named. named;
  crashed = λ keeps server named. named;
}

pub named-end : (world : World) (number : ℕ) (host : List ℕ) (lines : List Event) (log : List ℕ) (final : World) (run : Logged world number host lines log final) → HaveSoundTexts lines → Has (Unit {0}) IsNamed host world → Has (Unit {0}) IsNamed host final
named-end world number host [] log final run sound named = subst (Has (Unit {0}) IsNamed host) (sym run.1) named
named-end world number host (e ∷ lines) log final run sound named =
    named-end run.0.world (number + 1) host lines run.2 final run.5 sound.1
    (kept-line (Unit {0}) IsNamed named-stays world number host e run.0 run.1 run.3 (λ at is none. subst HasSoundTexts is sound.0) named)
