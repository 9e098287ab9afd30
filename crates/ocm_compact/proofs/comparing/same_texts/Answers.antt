use Rattle.std.proofs.Common.{sym, ◌∙◌}
use Rattle.std.specs.Cmp.Lexicographic.{bytes_decides, pointwise_decides}
use Rattle.ocm_compact.proofs.comparing.same_texts.Goals as goal

pub returns : goal.returns
returns c = λ yes. (pointwise_decides bytes_decides c.args.texts.now c.args.others.now).0 (sym c.eq.ensures ∙ yes)
