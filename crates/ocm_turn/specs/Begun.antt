-- What a value made of an ask.
use Rattle.std.specs.Prelude.{⊤}
use Rattle.ocm_entry.specs.declared.asks.Ask.{Ask}
use Rattle.ocm_entry.specs.declared.replies.Reply.{Reply}
use Rattle.ocm_turn.specs.declared.calling.Tried.{Tried}
use Rattle.ocm_turn.specs.declared.calling.Tried.TheVariants.{Over, Refused, Again}
use Rattle.ocm_turn.specs.declared.dated.Begun.{Begun}
use Rattle.ocm_turn.specs.declared.dated.Begun.TheVariants.{Replied, Apart, Busy}

-- a fact of the reply, where there is one
abbrev pub IfReplied : {W : Type 0} → Begun W → (Reply → Type 0) → Type 0
IfReplied (Replied reply) P = P reply
IfReplied _ P = ⊤

-- a fact of the work that is to be done apart, where there is some
abbrev pub IfApart : {W : Type 0} → Begun W → (W → Type 0) → Type 0
IfApart (Apart work) P = P work
IfApart _ P = ⊤

-- a fact of the ask that comes back, where it does
abbrev pub IfBusy : {W : Type 0} → Begun W → (Ask → Type 0) → Type 0
IfBusy (Busy ask) P = P ask
IfBusy _ P = ⊤

-- the call goes on
abbrev pub IsNoReply : {W : Type 0} → Begun W → Type 0
IsNoReply (Replied reply) = ⊥
IsNoReply _ = ⊤

-- a fact of the reply, where a try at a call ended it
abbrev pub IfOver : Tried → (Reply → Type 0) → Type 0
IfOver (Over reply) P = P reply
IfOver _ P = ⊤

-- a fact, where a try at a call found the limit reached
abbrev pub IfRefused : Tried → Type 0 → Type 0
IfRefused Refused P = P
IfRefused _ P = ⊤

-- a fact of the ask that comes back from a try at a call, where it does
abbrev pub IfAgain : Tried → (Ask → Type 0) → Type 0
IfAgain (Again ask) P = P ask
IfAgain _ P = ⊤
