use Rattle.std.proofs.Common.{◌∙◌, arith}
use Rattle.ocm_drill.specs.Script.{opened}
use Rattle.ocm_drill.proofs.Known.{one_more_behind}
use Rattle.ocm_drill.proofs.federation.Federation.add_opened.Goals as goal

pub loop-i-preserved : goal.loop-i-preserved
loop-i-preserved c = c.in_ok-push.ensures.ok ∙ one_more_behind (opened c.args.kind) c.loop-i.i _ c.loop-i.events c.in_ok-event.event c.loop-i.invariant (omega arith) c.in_ok-event.ensures
