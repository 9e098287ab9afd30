use Rattle.std.proofs.Common.{[], ap, ◌∙◌}
use Rattle.ocm_access_log.specs.Lines.{log_of}
use Rattle.ocm_logcheck.specs.Replays.{count_true}
use Rattle.ocm_logcheck.proofs.Telling.{told-read}
use Rattle.ocm_logcheck.proofs.checks.check_blank.Goals as goal

pub returns-in-Ok : goal.returns-in-Ok
returns-in-Ok c = λ some.
    c.told.ensures
    ∙ told-read [] [] (log_of c.args.log.now) c.in-Ok.lines c.count_true_of_none-found.result c.len.result c.in-Ok.ensures.exact
    (c.count_true_of_none-found.ensures ∙ ap (count_true [] []) c.as_slice.ensures) c.len.ensures
