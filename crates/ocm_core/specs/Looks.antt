use Rattle.std.specs.Prelude.{Bool, true, false}
use Rattle.ocm_entry.specs.declared.asks.Ask.{Ask}
use Rattle.ocm_entry.specs.declared.asks.Ask.TheVariants as asks

-- whether an ask may look at more shares than its holder's: a user's command and another server's notice may
abbrev pub may_look_beside : Ask → Bool
may_look_beside (asks.Local key cmd) = true
may_look_beside (asks.Notice notice fresh) = true
may_look_beside ask = false
