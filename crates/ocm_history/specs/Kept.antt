-- Which bodies still stand, of what is kept in memory of each entry.
use Rattle.std.specs.Prelude.{ℕ, List, ◌∷◌, Option}
use Rattle.ocm_entry.specs.declared.asks.Ask.{Ask}
use Rattle.ocm_entry.specs.declared.entries.Entry.{Entry}
use Rattle.ocm_rules.specs.History.{kept}
use Rattle.ocm_law_sessions.specs.Sessions.{heard}
use Rattle.ocm_core.specs.Standing.{standing_body}

-- the bodies that still stand, by the numbers of their entries, once an ask with its answer is kept after a history
abbrev pub bodies_with : List ℕ → List Entry → Ask → ℕ → Option (List ℕ)
bodies_with host g ask number = standing_body host (heard host g ask ∷ kept host g) number
