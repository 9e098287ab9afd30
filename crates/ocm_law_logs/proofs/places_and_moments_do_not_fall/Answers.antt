use Rattle.ocm_law_logs.proofs.Truths.{count-grows, moments-grow}
use Rattle.ocm_law_logs.proofs.places_and_moments_do_not_fall.Goals as goal

pub returns-clause-places : goal.returns-clause-places
returns-clause-places c = count-grows

pub returns-clause-moments : goal.returns-clause-moments
returns-clause-moments c = moments-grow
