use Rattle.ocm_http.proofs.Unique.{frame_one}
use Rattle.ocm_http.proofs.laws.bytes_are_one_frame.Goals as goal

pub returns : goal.returns
returns c = frame_one
