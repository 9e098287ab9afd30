use Rattle.ocm_http.proofs.Stable.{frame_stays}
use Rattle.ocm_http.proofs.laws.more_bytes_change_nothing.Goals as goal

pub returns : goal.returns
returns c = frame_stays
