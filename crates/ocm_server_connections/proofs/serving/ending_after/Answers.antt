use Rattle.std.proofs.Common.{rules}
use Rattle.ocm_server_connections.specs.Talk.{ending_after}
use Rattle.ocm_server_connections.proofs.serving.ending_after.Goals as goal

pub returns-then-number-eq-LAST_CONNECTION_REQUEST : goal.returns-then-number-eq-LAST_CONNECTION_REQUEST
unfolding ending_after
returns-then-number-eq-LAST_CONNECTION_REQUEST c = search rules

pub returns-then-closes : goal.returns-then-closes
unfolding ending_after
returns-then-closes c = search rules

pub returns-else-closes : goal.returns-else-closes
unfolding ending_after
returns-else-closes c = search rules
