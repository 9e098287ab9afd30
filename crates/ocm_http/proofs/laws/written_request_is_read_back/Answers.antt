use Rattle.ocm_http.proofs.ReadRequests.{request_is_read_back}
use Rattle.ocm_http.proofs.laws.written_request_is_read_back.Goals as goal

pub returns : goal.returns
returns c = request_is_read_back
