-- The ask that brings the time.
use Rattle.std.specs.Prelude.{Bool, true, false}
use Rattle.ocm_entry.specs.declared.asks.Ask.{Ask}
use Rattle.ocm_entry.specs.declared.asks.Ask.TheVariants.{Tick}

-- whether an ask is a tick
abbrev pub is_tick : Ask → Bool
is_tick (Tick clock) = true
is_tick _ = false
