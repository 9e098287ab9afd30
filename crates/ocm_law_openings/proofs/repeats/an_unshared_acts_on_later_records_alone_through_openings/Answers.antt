use Rattle.ocm_law_openings.proofs.Repeating.{unshared-alone-later, unshared-changes-later}
use Rattle.ocm_law_openings.proofs.repeats.an_unshared_acts_on_later_records_alone_through_openings.Goals as goal

pub returns-clause-changes : goal.returns-clause-changes
returns-clause-changes c = unshared-changes-later

pub returns-clause-alone : goal.returns-clause-alone
returns-clause-alone c = unshared-alone-later
