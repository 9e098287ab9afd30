use Rattle.std.proofs.Common.{[], ◌∷◌, sym, ◌∙◌}
use Rattle.ocm_serve_log.proofs.Texts.{three_digits}
use Rattle.ocm_serve_log.proofs.logs.digits.Goals as goal

pub returns : goal.returns
returns c = (λ i. c.digit.ensures i ∷ c.digit-2.ensures i ∷ c.digit-3.ensures i ∷ []) ∙ sym (three_digits c.args.status c.requires.0 c.requires.1)
