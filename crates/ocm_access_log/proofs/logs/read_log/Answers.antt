use Rattle.std.proofs.Common.{[]}
use Rattle.ocm_access_log.proofs.Order.{are_logged}
use Rattle.ocm_access_log.proofs.logs.read_log.Goals as goal

pub returns-clause-order : goal.returns-clause-order
returns-clause-order c = are_logged 1 0 0 [] c.args.log.now _ c.in_ok-add_lines.ensures.ok
