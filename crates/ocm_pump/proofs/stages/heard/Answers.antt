use Rattle.std.proofs.Common.{sym, subst, List, ℕ, Result}
use Rattle.ocm_pump.specs.declared.exchanges.DialEnd.{DialEnd}
use Rattle.ocm_pump.specs.Machines.{Heard}
use Rattle.ocm_pump.proofs.stages.heard.Goals as goal

pub returns-in-Ok : goal.returns-in-Ok
returns-in-Ok c = subst (λ (r : Result (List ℕ) DialEnd). Heard r c.read_reply.result) (sym c.in-Ok.is) c.read_reply.ensures
