-- One server through the openings of its file: its sessions, one after another, and the one history that they have. All lists
-- have the newest first.
use Rattle.std.specs.Prelude.{◌≡◌, ◌⊎◌, ℕ, List, [], ◌∷◌, ◌++◌, Bool, ⊤, Option, Some}
use Rattle.std.specs.List.{list_any}
use Rattle.ocm_entry.specs.declared.asks.Ask.{Ask}
use Rattle.ocm_entry.specs.declared.entries.Entry.{Entry}
use Rattle.ocm_rules.specs.History.{IsLegal}
use Rattle.ocm_rules.specs.Lean.{lean}
use Rattle.ocm_law_repeats.specs.Repeats.{is_repeat}
use Rattle.ocm_law_sessions.specs.Sessions.{IsSession, heard}
use Rattle.ocm_law_sessions.specs.Crashes.{IsNext, unheard}

-- one session: how many bytes an area of the server's file has, what the file opened to, the calls that were answered since,
-- and the ask that was in flight when the session ended, where there was one
pub record Period : Type 0 where
  pub area : ℕ
  pub base : List Entry
  pub calls : List Entry
  pub flight : Option Ask

-- the history of a session
abbrev pub history_in : Period → List Entry
history_in p = p.calls ++ p.base

-- Sessions follow one another: each opened to what may follow the one before it, and the first to a legal list.
abbrev pub Follow : List ℕ → List Period → Type 0
Follow host [] = ⊤
Follow host (p ∷ []) = IsSession host p.area p.base p.calls
Follow host (p ∷ before ∷ older) =
    IsSession host p.area p.base p.calls × IsNext host before.base before.calls before.flight p.base × Follow host (before ∷ older)

-- what an opening adds to the one history up to a session: nothing, or the ask of which nobody heard, with its answer
abbrev pub IsAdded : List ℕ → Period → List Entry → List Entry → Type 0
IsAdded host before g added =
    (added ≡ []) ⊎ ((ask : Ask) × (unheard host before.base before.calls before.flight ≡ Some ask) × (added ≡ heard host g ask ∷ []))

-- A history has the calls of these sessions: those of each stand in it in their order, behind those of the sessions before,
-- and between two sessions stands at most one entry, of which nobody heard.
abbrev pub HasCalls : List ℕ → List Period → List Entry → Type 0
HasCalls host [] g = g ≡ []
HasCalls host (p ∷ []) g = g ≡ history_in p
HasCalls host (p ∷ before ∷ older) g =
    (earlier : List Entry) × (added : List Entry) × HasCalls host (before ∷ older) earlier × IsAdded host before earlier added
    × (g ≡ p.calls ++ (added ++ earlier))

-- The one history of these sessions, of which the first named is the last: it has their calls, is legal, and decides all that
-- the history of the last one decides, since their lean lists are the same.
pub record IsOneHistory (host : List ℕ) (p : Period) (older : List Period) (g : List Entry) : Type 0 where
  pub calls : HasCalls host (p ∷ older) g
  pub legal : IsLegal host g
  pub same : lean host g ≡ lean host (history_in p)

-- whether an ask repeats one that was taken in one of these sessions, or before
abbrev pub was_taken_in : List Period → Ask → Bool
was_taken_in ps ask = list_any (λ (p : Period). is_repeat (history_in p) ask) ps

-- Sessions went on: the last of them had more calls, or others followed it.
abbrev pub GoOn : List Period → List Period → Type 0
GoOn [] later = ⊤
GoOn (p ∷ older) later =
    (newer : List Period) × (q : Period) × (more : List Entry) × (later ≡ newer ++ q ∷ older) × (q.base ≡ p.base) × (q.calls ≡ more ++ p.calls)
