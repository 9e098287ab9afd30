use Rattle.ocm_http.proofs.ReadReplies.{fixed_are_written}
use Rattle.ocm_http.proofs.laws.fixed_replies_are_written_replies.Goals as goal

pub returns : goal.returns
returns c = fixed_are_written
