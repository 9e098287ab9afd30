use Rattle.std.proofs.Common.{◌≡◌, Bool, subst}
use Rattle.std.specs.Prelude.{IfOk}
use Rattle.ocm_davmore.proofs.Answered.{origin-text, origin-no_text}
use Rattle.ocm_davmore.proofs.origins.is_own_origin.Goals as goal

pub returns-in-Ok : goal.returns-in-Ok
returns-in-Ok c =
    subst (λ (z : Bool). IfOk c.is_own_address.result (λ own. own ≡ z)) (origin-text c.args.host.now c.args.value.now c.in-Ok.text.now c.in-Ok.ensures.cases.0 c.in-Ok.ensures.cases.1) c.is_own_address.ensures

pub returns-in-Err : goal.returns-in-Err
returns-in-Err c = origin-no_text c.args.host.now c.args.value.now c.in-Err.ensures.cases.0
