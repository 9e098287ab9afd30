use Rattle.std.proofs.Common.{◌∙◌, arith}
use Rattle.ocm_drill.specs.Federation.{address}
use Rattle.ocm_drill.proofs.Known.{one_more}
use Rattle.ocm_drill.proofs.names.users.Goals as goal

pub loop-i-preserved : goal.loop-i-preserved
loop-i-preserved c = c.in_ok-push.ensures.ok ∙ one_more address c.loop-i.i c.loop-i.users _ c.loop-i.invariant (omega arith) c.in_ok-user.ensures
