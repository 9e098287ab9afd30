use Rattle.ocm_law_openings.proofs.Repeating.{changed-alone-later, changed-changes-later}
use Rattle.ocm_law_openings.proofs.repeats.a_changed_acts_on_later_records_alone_through_openings.Goals as goal

pub returns-clause-changes : goal.returns-clause-changes
returns-clause-changes c = changed-changes-later

pub returns-clause-alone : goal.returns-clause-alone
returns-clause-alone c = changed-alone-later
