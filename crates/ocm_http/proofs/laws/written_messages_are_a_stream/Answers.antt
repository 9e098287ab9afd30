use Rattle.ocm_http.proofs.ReadStreams.{stream_of_messages}
use Rattle.ocm_http.proofs.laws.written_messages_are_a_stream.Goals as goal

pub returns : goal.returns
returns c = stream_of_messages
