use Rattle.std.proofs.Common.{arith}
use Rattle.ocm_http_heads.proofs.Skips.{skips}
use Rattle.ocm_http_heads.proofs.endings.Look.skip.Goals as goal

pub returns-in-InLine-clause-found : goal.returns-in-InLine-clause-found
returns-in-InLine-clause-found c = (skips c.args.self.now c.args.piece.now c.min-count.result c.in-InLine.is (omega (arith, c.min-count.ensures)) (omega (arith, c.min-count.ensures, c.before_feed.ensures.count))).found

pub returns-in-InLine-clause-moved : goal.returns-in-InLine-clause-moved
returns-in-InLine-clause-moved c = (skips c.args.self.now c.args.piece.now c.min-count.result c.in-InLine.is (omega (arith, c.min-count.ensures)) (omega (arith, c.min-count.ensures, c.before_feed.ensures.count))).moved
