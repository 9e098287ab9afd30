use Rattle.ocm_logcheck.proofs.EmptyLists.{none-alike}
use Rattle.ocm_logcheck.proofs.laws.the_empty_list_is_the_same_for_all_hosts.Goals as goal

pub returns : goal.returns
returns c = none-alike
