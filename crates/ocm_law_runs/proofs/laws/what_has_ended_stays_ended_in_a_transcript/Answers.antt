use Rattle.ocm_law_runs.proofs.Transcripts.{ended-further}
use Rattle.ocm_law_runs.proofs.laws.what_has_ended_stays_ended_in_a_transcript.Goals as goal

pub returns : goal.returns
returns c = ended-further
