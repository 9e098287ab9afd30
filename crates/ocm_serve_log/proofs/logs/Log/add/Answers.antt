use Rattle.std.proofs.Common.{◌≡◌, subst}
use Rattle.std.specs.Prelude.{IfOk}
use Rattle.ocm_access_log.specs.Written.{written_ask}
use Rattle.ocm_serve_log.proofs.logs.Log.add.Goals as goal

pub returns-in-Ok : goal.returns-in-Ok
returns-in-Ok g c = λ line status is.
    c.gather.ensures line status is.0 (subst (λ r. IfOk r (λ text. text ≡ written_ask line.place line.moment 200 line.ask)) c.in-Ok.is is.1)
