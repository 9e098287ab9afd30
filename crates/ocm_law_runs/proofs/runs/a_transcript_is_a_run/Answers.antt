use Rattle.ocm_law_runs.proofs.Transcripts.{reached-from}
use Rattle.ocm_law_runs.proofs.Lines.{transcript-run}
use Rattle.ocm_law_runs.proofs.runs.a_transcript_is_a_run.Goals as goal

pub returns-clause-reached : goal.returns-clause-reached
returns-clause-reached c = reached-from

pub returns-clause-further : goal.returns-clause-further
returns-clause-further c = λ w servers final number events text reached stands transcript. transcript-run w servers final number events text reached stands transcript
