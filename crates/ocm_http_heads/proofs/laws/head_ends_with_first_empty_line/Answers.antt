use Rattle.ocm_http_heads.proofs.EmptyLines.{heads_end}
use Rattle.ocm_http_heads.proofs.laws.head_ends_with_first_empty_line.Goals as goal

pub returns : goal.returns
returns c = heads_end
