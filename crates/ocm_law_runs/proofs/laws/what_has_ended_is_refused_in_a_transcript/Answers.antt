use Rattle.ocm_law_runs.proofs.Transcripts.{ended-refused, ended-requests}
use Rattle.ocm_law_runs.proofs.laws.what_has_ended_is_refused_in_a_transcript.Goals as goal

pub returns-clause-line : goal.returns-clause-line
returns-clause-line c = ended-refused

pub returns-clause-requests : goal.returns-clause-requests
returns-clause-requests c = ended-requests
