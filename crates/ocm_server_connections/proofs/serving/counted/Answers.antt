use Rattle.ocm_server_connections.proofs.Talking.{counted_last, counted_other}
use Rattle.ocm_server_connections.proofs.serving.counted.Goals as goal

pub returns-then-number-eq-LAST_CONNECTION_REQUEST : goal.returns-then-number-eq-LAST_CONNECTION_REQUEST
returns-then-number-eq-LAST_CONNECTION_REQUEST c = counted_last c.args.number c.args.message c.closing-head.result c.if-number-eq-LAST_CONNECTION_REQUEST.true c.closing-head.ensures

pub returns-else-number-eq-LAST_CONNECTION_REQUEST : goal.returns-else-number-eq-LAST_CONNECTION_REQUEST
returns-else-number-eq-LAST_CONNECTION_REQUEST c = counted_other c.args.number c.args.message c.if-number-eq-LAST_CONNECTION_REQUEST.false
