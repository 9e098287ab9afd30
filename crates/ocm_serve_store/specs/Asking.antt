-- Which asks are taken to make a change that is written while others read.
use Rattle.std.specs.Prelude.{Bool, true, false}
use Rattle.ocm_entry.specs.declared.asks.Ask.{Ask}
use Rattle.ocm_entry.specs.declared.asks.Ask.TheVariants as asks
use Rattle.ocm_rules.specs.History.{is_change, writes}

-- whether an ask may make a change, where a tick is taken to make none
abbrev pub may_change : Ask → Bool
may_change asks.Due = false
may_change (asks.Tick clock) = false
may_change (asks.Local key cmd) = is_change cmd
may_change (asks.Dav secret method path body) = writes method
may_change _ = true
