use Rattle.std.proofs.Common.{rules}
use Rattle.ocm_http_heads.proofs.requests.read_request.Goals as goal

pub returns-in-Some : goal.returns-in-Some
returns-in-Some c = let says = c.in_ok-head.ensures in rw c.in-Some.is at says
