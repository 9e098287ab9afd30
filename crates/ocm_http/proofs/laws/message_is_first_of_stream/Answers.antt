use Rattle.ocm_http.proofs.Stable.{first_of_stream}
use Rattle.ocm_http.proofs.laws.message_is_first_of_stream.Goals as goal

pub returns : goal.returns
returns c = first_of_stream
