use Rattle.ocm_law_runs.proofs.Transcripts.{unshared-refused, unshared-requests}
use Rattle.ocm_law_runs.proofs.laws.what_was_unshared_is_refused_ever_after.Goals as goal

pub returns-clause-line : goal.returns-clause-line
returns-clause-line c = unshared-refused

pub returns-clause-requests : goal.returns-clause-requests
returns-clause-requests c = unshared-requests
