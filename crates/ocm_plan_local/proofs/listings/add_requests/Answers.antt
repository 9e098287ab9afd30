use Rattle.std.proofs.Common.{arith}
use Rattle.ocm_plan_local.specs.Told.{request_told}
use Rattle.ocm_plan_local.proofs.UserLines.{lines-more}
use Rattle.ocm_plan_local.proofs.listings.add_requests.Goals as goal

pub loop-number-preserved : goal.loop-number-preserved
loop-number-preserved c = lines-more (request_told c.args.tables.now.state) c.args.numbers.now c.loop-number.number-index _ _ _ (omega arith) c.loop-number.invariant c.in_ok-add_request.ensures
