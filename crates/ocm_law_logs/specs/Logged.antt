-- What a server logs of a read, and which lines are true of a history. Histories stand newest first: `later ++ g` is one that went on after g.
use Rattle.std.specs.Prelude.{ℕ, List, [], ◌∷◌, Bool, false, not, IsTrue, ⊤}
use Rattle.ocm_entry.specs.declared.asks.Ask.{Ask}
use Rattle.ocm_entry.specs.declared.asks.Ask.TheVariants.{Dav}
use Rattle.ocm_entry.specs.declared.entries.Entry.{Entry}
use Rattle.ocm_rules.specs.History.{kept, writes}
use Rattle.ocm_rules.specs.Lean.{count}
use Rattle.ocm_rules.specs.Shares.{moment}
use Rattle.ocm_access_log.specs.declared.lines.LogLine.{LogLine}
use Rattle.ocm_access_log.specs.Truth.{is_true}

-- whether an ask reads files: a GET, a HEAD or a listing
abbrev pub is_read : Ask → Bool
is_read (Dav secret method path body) = not (writes method)
is_read _ = false

-- the line that a server logs of an ask after a history, where its answer has this status
abbrev pub line_after : List ℕ → List Entry → Ask → ℕ → LogLine
line_after host g ask status = record { place = count host g; moment = moment (kept host g); ask = ask; status = status }

-- whether a line is true of a history: of all that is kept of it
abbrev pub is_true_of : List ℕ → List Entry → LogLine → Bool
is_true_of host g line = is_true host (kept host g) line

-- each of these lines is about a read and true of a history
abbrev pub AreTrue : List ℕ → List Entry → List LogLine → Type 0
AreTrue host g [] = ⊤
AreTrue host g (line ∷ lines) = IsTrue (is_read line.ask) × IsTrue (is_true_of host g line) × AreTrue host g lines
