use Rattle.std.proofs.Common.{◌∙◌, ap}
use Rattle.std.specs.Prelude.{option_and_then}
use Rattle.ocm_access_log.specs.Truth.{status_of}
use Rattle.ocm_script_run.proofs.traces.status_at.Goals as goal

pub returns-in-Some-clause-told : goal.returns-in-Some-clause-told
returns-in-Some-clause-told g c = λ world are.
    let h = c.in-Some.ensures world are in
    (h.0, c.status_of-status.ensures.exact ∙ ap (option_and_then status_of) h.1, h.2)

pub returns-in-None-clause-told : goal.returns-in-None-clause-told
returns-in-None-clause-told g c = λ world are.
    let h = c.in-None.ensures world are in
    (h.0, ap (option_and_then status_of) h.1, h.2)
