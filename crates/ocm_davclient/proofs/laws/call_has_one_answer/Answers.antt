use Rattle.ocm_davclient.proofs.OneAnswers.{finds_one, fetches_one, changes_one}
use Rattle.ocm_davclient.proofs.laws.call_has_one_answer.Goals as goal

pub returns-clause-client : goal.returns-clause-client
returns-clause-client c = finds_one

pub returns-clause-body : goal.returns-clause-body
returns-clause-body c = fetches_one

pub returns-clause-status : goal.returns-clause-status
returns-clause-status c = changes_one
