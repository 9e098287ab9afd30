use Rattle.ocm_incoming.proofs.Walking.{walk-on}
use Rattle.std.proofs.Common.{arith}
use Rattle.ocm_incoming.proofs.chains.Chain.members.Goals as goal

pub loop-number-preserved : goal.loop-number-preserved
loop-number-preserved c = walk-on c.args.self.now.groups c.args.group c.loop-number.number _ c.loop-number.found.items _ (omega arith) c.in_ok-push.ensures.items c.earlier-number.ensures c.loop-number.invariant
