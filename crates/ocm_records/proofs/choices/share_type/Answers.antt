use Rattle.std.proofs.lemmas.Result.{err_from_is_err_and}
use Rattle.ocm_records.proofs.Failing.{no_text}
use Rattle.ocm_records.proofs.choices.share_type.Goals as goal

pub returns-in_err-word : goal.returns-in_err-word
returns-in_err-word c =
    let p = err_from_is_err_and c.from_residual.result c.from_residual.ensures.1 in
    rw (p.1, p.2) (no_text _ _ _ _ c.in_err-word.ensures.err)
