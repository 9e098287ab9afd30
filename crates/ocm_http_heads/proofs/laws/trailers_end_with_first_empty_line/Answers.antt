use Rattle.ocm_http_heads.proofs.EmptyLines.{trailers_end}
use Rattle.ocm_http_heads.proofs.laws.trailers_end_with_first_empty_line.Goals as goal

pub returns : goal.returns
returns c = trailers_end
