use Rattle.ocm_http.proofs.Requests.{request_whole}
use Rattle.ocm_http.proofs.laws.request_is_whole.Goals as goal

pub returns : goal.returns
returns c = request_whole
