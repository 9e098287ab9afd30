use Rattle.std.proofs.Common.{ℕ, [], Option, ap, ◌∙◌, sym}
use Rattle.std.specs.Option.{option_map_or}
use Rattle.ocm_script_run.specs.Transcript.{opened_line}
use Rattle.ocm_script_run.proofs.Lines.{if_ok}
use Rattle.ocm_script_run.proofs.runs.crash.Goals as goal

pub returns-in-Some : goal.returns-in-Some
returns-in-Some g c = if_ok c.opened_line.result
    (λ text e world are.
    let h = c.in_ok-count.ensures world are in
    ([], e ∙ ap (λ (o : Option ℕ). option_map_or (opened_line c.args.line) o []) (sym c.in-Some.is ∙ h.0), h.1))
    c.opened_line.ensures

pub returns-in-None : goal.returns-in-None
returns-in-None g c = λ world are.
    let h = c.in_ok-count.ensures world are in
    ([], c.new.ensures ∙ ap (λ (o : Option ℕ). option_map_or (opened_line c.args.line) o []) (sym c.in-None.is ∙ h.0), h.1)
