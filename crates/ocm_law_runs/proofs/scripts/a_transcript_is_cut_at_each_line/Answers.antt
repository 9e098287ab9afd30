use Rattle.ocm_law_runs.proofs.Cutting.{cut}
use Rattle.ocm_law_runs.proofs.scripts.a_transcript_is_cut_at_each_line.Goals as goal

pub returns : goal.returns
returns c = cut
