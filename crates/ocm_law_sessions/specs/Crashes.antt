-- What a crash may leave of a session, and what the next session opens to.
use Rattle.std.specs.Prelude.{◌≡◌, ℕ, List, ◌∷◌, ◌++◌, if◌then◌else◌, ◌⊎◌, Option, Some, None, option_and_then, option_map}
use Rattle.std.specs.Option.{option_or}
use Rattle.ocm_entry.specs.declared.asks.Ask.{Ask}
use Rattle.ocm_entry.specs.declared.entries.Entry.{Entry}
use Rattle.ocm_rules.specs.Numbers.{latest}
use Rattle.ocm_rules.specs.History.{IsLegal}
use Rattle.ocm_rules.specs.Lean.{lean}
use Rattle.ocm_law_sessions.specs.Sessions.{count_of, heard, would_change}

-- the ask of an entry that tells a disk fault
abbrev pub faulted_ask : Entry → Option Ask
faulted_ask e = option_map (λ count. e.ask) (count_of e.reply)

-- the ask of the last call that was told a disk fault
abbrev pub faulted : List Entry → Option Ask
faulted h = latest faulted_ask h

-- an ask that would change something after a history
abbrev pub if_changing : List ℕ → List Entry → Ask → Option Ask
if_changing host g ask = if would_change host g ask then Some ask else None

-- the ask that may be kept although nobody heard its answer: that of the session's disk fault, else one that was in flight and would change something
abbrev pub unheard : List ℕ → List Entry → List Entry → Option Ask → Option Ask
unheard host k h flight = option_or (faulted h) (option_and_then (if_changing host (h ++ k)) flight)

-- a list has the lean list of a history with one entry more: this ask with its answer
abbrev pub HasLeanWith : List ℕ → List Entry → Option Ask → List Entry → Type 0
HasLeanWith host g None next = ⊥
HasLeanWith host g (Some ask) next = lean host next ≡ lean host (heard host g ask ∷ g)

-- What a session may open to that follows one which opened to k and had the calls h, with an ask in flight or none: a legal
-- list with the lean list of `h ++ k`, or with that of `h ++ k` and one unheard entry more.
abbrev pub IsNext : List ℕ → List Entry → List Entry → Option Ask → List Entry → Type 0
IsNext host k h flight next =
    IsLegal host next × ((lean host next ≡ lean host (h ++ k)) ⊎ HasLeanWith host (h ++ k) (unheard host k h flight) next)
