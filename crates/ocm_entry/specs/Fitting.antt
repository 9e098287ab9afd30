-- Which replies an ask can have.
use Rattle.std.specs.Prelude.{Bool, true, false, IsTrue, ⊤}
use Rattle.ocm_entry.specs.declared.asks.Ask.{Ask}
use Rattle.ocm_entry.specs.declared.asks.Ask.TheVariants as asks
use Rattle.ocm_entry.specs.declared.replies.Reply.{Reply}
use Rattle.ocm_entry.specs.declared.replies.Reply.TheVariants as replies

-- whether an ask asks for the messages that are due
abbrev pub is_due : Ask → Bool
is_due asks.Due = true
is_due _ = false

-- whether an ask tells how a message was answered
abbrev pub is_settle : Ask → Bool
is_settle (asks.Settle number status id) = true
is_settle _ = false

-- a reply fits an ask: the messages that are due are told to Due alone, and only Settle's message can stay due
abbrev pub Fits : Ask → Reply → Type 0
Fits ask (replies.Due messages) = IsTrue (is_due ask)
Fits ask replies.Left = IsTrue (is_settle ask)
Fits ask _ = ⊤
