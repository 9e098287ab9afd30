use Rattle.ocm_law_runs.proofs.Requests.{repeat-in_script}
use Rattle.ocm_law_runs.proofs.scripts.a_repeat_changes_nothing_in_a_transcript.Goals as goal

pub returns : goal.returns
returns c = repeat-in_script
