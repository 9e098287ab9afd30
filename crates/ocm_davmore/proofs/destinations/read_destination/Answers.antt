use Rattle.std.proofs.Common.{Err, ap, sym, ◌∙◌}
use Rattle.ocm_davmore.proofs.Answered.{destination-text, destination-no_text, ok_of, err_of}
use Rattle.ocm_davmore.proofs.destinations.read_destination.Goals as goal

pub returns-in-Ok-clause-ok : goal.returns-in-Ok-clause-ok
returns-in-Ok-clause-ok c =
    ok_of c.read_text.result _ _ (destination-text c.args.host.now c.args.value.now c.in-Ok.text.now c.in-Ok.ensures.cases.0 c.in-Ok.ensures.cases.1) c.read_text.ensures

pub returns-in-Ok-clause-err : goal.returns-in-Ok-clause-err
returns-in-Ok-clause-err c =
    err_of c.read_text.result _ _ (destination-text c.args.host.now c.args.value.now c.in-Ok.text.now c.in-Ok.ensures.cases.0 c.in-Ok.ensures.cases.1) c.read_text.ensures

pub returns-in-Err-clause-err : goal.returns-in-Err-clause-err
returns-in-Err-clause-err c = λ _. destination-no_text c.args.host.now c.args.value.now c.in-Err.ensures.cases.0 ∙ ap Err (sym c.fault_without_text.ensures)
