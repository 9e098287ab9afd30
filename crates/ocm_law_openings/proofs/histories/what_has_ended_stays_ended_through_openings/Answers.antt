use Rattle.ocm_law_openings.specs.Openings.{history_in}
use Rattle.ocm_law_openings.proofs.OneHistory.{ended-since, since-back}
use Rattle.ocm_law_openings.proofs.histories.what_has_ended_stays_ended_through_openings.Goals as goal

pub returns : goal.returns
returns c = λ host newer older p q i m follow is ended. ended-since host (history_in q) (history_in p) i m (since-back host newer older p q follow) is ended
