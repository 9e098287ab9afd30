use Rattle.std.proofs.Common.{subst}
use Rattle.ocm_types.specs.declared.letters.Letter.{Letter}
use Rattle.ocm_pump.specs.declared.stages.Stage.{Stage}
use Rattle.ocm_pump.specs.Machines.{Went}
use Rattle.ocm_pump.proofs.MachineLemmas.{goes_on}
use Rattle.ocm_pump.proofs.machines.Delivery.came.Goals as goal

pub invariant_of-self : goal.invariant_of-self
invariant_of-self c =
    let letter = subst (λ (l : Letter). Went l c.replace-stage.result c.heard-sent.result c.went.result) c.deref.ensures c.went.ensures in
    let stage = subst (λ (s : Stage). Went c.self.inside.message.letter s c.heard-sent.result c.went.result) c.replace-stage.ensures.value letter in
    goes_on c.self.inside.message c.self.inside.stage c.went.result c.args.reply c.self.invariant (c.heard-sent.result, c.heard-sent.ensures, stage)
