-- What of a list of kept entries decides all but its files.
use Rattle.std.specs.Prelude.{ℕ, List, [], ◌∷◌, Bool, true, false, ◌||◌, if◌then◌else◌}
use Rattle.ocm_entry.specs.declared.asks.Ask.{Ask}
use Rattle.ocm_entry.specs.declared.asks.Ask.TheVariants.{Dav, Carry}
use Rattle.ocm_entry.specs.declared.entries.Entry.{Entry}
use Rattle.ocm_entry.specs.Ticks.{is_tick}
use Rattle.ocm_rules.specs.Shares.{moment}

-- whether an ask is one for files
abbrev pub is_for_files : Ask → Bool
is_for_files (Dav secret method path body) = true
is_for_files (Carry secret from to moving overwrite) = true
is_for_files _ = false

-- whether an ask is a tick or one for files
abbrev pub is_aside : Ask → Bool
is_aside ask = is_tick ask || is_for_files ask

-- an ask with the moment at which it was
pub record Dated : Type 0 where
  pub moment : ℕ
  pub ask : Ask

-- the asks of kept entries that are neither ticks nor for files, each with its moment, the newest first
abbrev pub others : List Entry → List Dated
others [] = []
others (e ∷ before) = if is_aside e.ask then others before else record { moment = moment before; ask = e.ask } ∷ others before
