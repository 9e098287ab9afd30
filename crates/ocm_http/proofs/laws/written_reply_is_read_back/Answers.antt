use Rattle.ocm_http.proofs.ReadReplies.{reply_is_read_back}
use Rattle.ocm_http.proofs.laws.written_reply_is_read_back.Goals as goal

pub returns : goal.returns
returns c = reply_is_read_back
