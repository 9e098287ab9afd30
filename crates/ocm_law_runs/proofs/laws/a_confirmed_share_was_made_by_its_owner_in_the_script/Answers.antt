use Rattle.ocm_law_runs.proofs.Transcripts.{confirmed-made}
use Rattle.ocm_law_runs.proofs.laws.a_confirmed_share_was_made_by_its_owner_in_the_script.Goals as goal

pub returns : goal.returns
returns c = confirmed-made
