use Rattle.std.proofs.Common.{arith}
use Rattle.ocm_plan_local.specs.Told.{share_told}
use Rattle.ocm_plan_local.proofs.UserLines.{lines-more}
use Rattle.ocm_plan_local.proofs.listings.add_shares.Goals as goal

pub loop-id-preserved : goal.loop-id-preserved
loop-id-preserved g c = lines-more (share_told c.args.tables.now.state) c.args.ids.now c.loop-id.id-index _ _ _ (omega arith) c.loop-id.invariant c.in_ok-add_share.ensures
