-- The history of each server goes on, line by line.
use Rattle.std.proofs.Common.{◌≡◌, List, [], ◌∷◌, ◌++◌, ℕ, Bool, true, false, Option, Some, None, refl, sym, ap, ◌∙◌, append_assoc}
use Rattle.std.specs.Option.{option_map_or}
use Rattle.ocm_entry.specs.declared.asks.Ask.{Ask}
use Rattle.ocm_entry.specs.declared.entries.Entry.{Entry}
use Rattle.ocm_law_sessions.specs.Crashes.{faulted}
use Rattle.ocm_law_sessions.specs.Sessions.{heard}
use Rattle.ocm_script.specs.declared.events.Event.{Event}
use Rattle.ocm_script_run.specs.Servers.{Server, World, history, kept_by_crash, reply_of, server_at}
use Rattle.ocm_script_run.specs.Deliveries.{Run}
use Rattle.ocm_script_run.specs.Traces.{IsLogged}
use Rattle.ocm_law_traces.proofs.Keeping.{HasIn, Stays, kept-line}

-- a history, or one that went on after it
abbrev pub Extends : List Entry → List Entry → Type 0
Extends g next = (later : List Entry) × (next ≡ later ++ g)

goes_on : (g mid next : List Entry) → Extends g mid → Extends mid next → Extends g next
goes_on g mid next first second = (second.0 ++ first.0, second.1 ∙ ap (λ (l : List Entry). second.0 ++ l) first.1 ∙ sym (append_assoc second.0 first.0 g))

-- the history of the server of a host, none where there is no server
abbrev pub history_at : World → List ℕ → List Entry
history_at world host = option_map_or history (server_at world host) []

abbrev pub Grows : List ℕ → World → World → Type 0
Grows host world next = Extends (history_at world host) (history_at next host)

pub grows_on : (host : List ℕ) (world mid next : World) → Grows host world mid → Grows host mid next → Grows host world next
grows_on host world mid next first second = goes_on (history_at world host) (history_at mid host) (history_at next host) first second

-- a crash keeps a history, also with the ask at which the disk failed
crash-extends : (g : List Entry) (keeps : Bool) (own : List ℕ) (o : Option Ask) (h : List Entry) → Extends g h → Extends g (kept_by_crash keeps own o h)
crash-extends g true own (Some ask) h later = (heard own h ask ∷ later.0, ap (λ (l : List Entry). heard own h ask ∷ l) later.1)
crash-extends g true own None h later = later
crash-extends g false own o h later = later

-- a server whose history is this one or went on after it
abbrev IsLater : List Entry → Server → Type 0
IsLater g server = Extends g (history server)

later-stays : (g : List Entry) → Stays (IsLater g)
later-stays g = record {
  asked = λ wanting server ask later. (record { ask = ask; reply = reply_of wanting server ask } ∷ later.0, ap (λ (l : List Entry). record { ask = ask; reply = reply_of wanting server ask } ∷ l) later.1);
  clocked = λ server clock later. later;
  fused = λ server calls later. later;
  crashed = λ keeps server later. crash-extends g keeps server.host (faulted server.calls) (history server) later;
}

-- over each line the history of a server goes on
pub grows-line : (world : World) (number : ℕ) (host : List ℕ) (e : Event) (line : Run) (log : List ℕ) → IsLogged world number host e line log → Grows host world line.world
grows-line world number host e line log is =
    out (server_at line.world host) (kept-line (Extends g []) (IsLater g) (later-stays g) world number host e line log is (λ at is none. ([], sym (own None none))) (into (server_at world host) refl))
  where
    g : List Entry
    g = history_at world host

    own : (o : Option Server) → server_at world host ≡ o → g ≡ option_map_or history o []
    own o found = ap (λ (o : Option Server). option_map_or history o []) found

    into : (o : Option Server) → server_at world host ≡ o → HasIn (Extends g []) (IsLater g) o
    into None none = ([], sym (own None none))
    into (Some server) there = ([], sym (own (Some server) there))

    out : (o : Option Server) → HasIn (Extends g []) (IsLater g) o → Extends g (option_map_or history o [])
    out None has = has
    out (Some server) has = has
