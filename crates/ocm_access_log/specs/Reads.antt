-- Which lines a log can have.
use Rattle.std.specs.Prelude.{◌≤◌, ℕ, List, [], ◌∷◌, ⊤, Bool, false, ◌&&◌, IsTrue}
use Rattle.ocm_entry.specs.Proper.{is_proper}
use Rattle.ocm_entry.specs.declared.asks.Ask.{Ask}
use Rattle.ocm_entry.specs.declared.asks.Ask.TheVariants.{Dav}
use Rattle.ocm_access_log.specs.Lines.{is_reading}
use Rattle.ocm_access_log.specs.declared.lines.LogLine.{LogLine}

-- whether an ask is a read of a path that a line may have: it is proper, so that its body is empty
abbrev pub is_read : Ask → Bool
is_read (Dav secret method path body) = is_reading method && is_proper (Dav secret method path body)
is_read _ = false

-- lines are of reads, and their places and moments don't fall, where the line before had these
abbrev pub AreLoggedFrom : ℕ → ℕ → List LogLine → Type 0
AreLoggedFrom place moment [] = ⊤
AreLoggedFrom place moment (line ∷ lines) =
    IsTrue (is_read line.ask) × (place ≤ line.place) × (moment ≤ line.moment) × AreLoggedFrom line.place line.moment lines

-- the same of a whole log
abbrev pub AreLogged : List LogLine → Type 0
AreLogged lines = AreLoggedFrom 0 0 lines
