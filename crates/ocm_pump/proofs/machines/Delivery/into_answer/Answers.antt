use Rattle.std.proofs.Common.{◌∙◌, sym, ap, subst}
use Rattle.ocm_types.specs.declared.letters.Numbered.{Numbered}
use Rattle.ocm_pump.specs.declared.stages.Stage.{Stage}
use Rattle.ocm_pump.specs.Machines.{IsUnderWay}
use Rattle.ocm_pump.proofs.MachineLemmas.{done_delivers}
use Rattle.ocm_pump.proofs.machines.Delivery.into_answer.Goals as goal

pub returns-in-Done-clause-delivers : goal.returns-in-Done-clause-delivers
returns-in-Done-clause-delivers c =
    let done = sym (ap (λ (p : Numbered × Stage). p.1) c.into_parts-message.ensures.parts) ∙ c.in-Done.is in
    done_delivers c.args.self.message c.in-Done.answer (subst (λ (s : Stage). IsUnderWay c.args.self.message s) done c.into_parts-message.ensures.under_way)
