use Rattle.std.proofs.Common.{◌∙◌, ap, arith}
use Rattle.ocm_texts.specs.Hex.{hex}
use Rattle.ocm_drill.specs.Federation.{key}
use Rattle.ocm_drill.proofs.Known.{one_more}
use Rattle.ocm_drill.proofs.names.keys.Goals as goal

pub loop-i-preserved : goal.loop-i-preserved
loop-i-preserved c = c.in_ok-push.ensures.ok ∙ one_more key c.loop-i.i c.loop-i.keys _ c.loop-i.invariant (omega arith) (c.in_ok-secret.ensures.text ∙ ap hex c.key_bytes.ensures)
