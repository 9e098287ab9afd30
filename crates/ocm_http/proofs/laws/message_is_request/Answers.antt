use Rattle.ocm_http.proofs.Requests.{message_request}
use Rattle.ocm_http.proofs.laws.message_is_request.Goals as goal

pub returns : goal.returns
returns c = message_request
