use Rattle.ocm_core.proofs.Standing.{IsAfter-failed}
use Rattle.ocm_core.proofs.laws.lists_stay_where_the_server_could_not.Goals as goal

pub returns : goal.returns
returns c = λ st g ask reply h failed. IsAfter-failed st g ask reply h failed
