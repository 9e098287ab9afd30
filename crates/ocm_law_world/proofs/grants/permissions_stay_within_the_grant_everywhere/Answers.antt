use Rattle.ocm_law_grants.proofs.Chains.{effective-below}
use Rattle.ocm_law_grants.proofs.Permissions.{perms-within}
use Rattle.ocm_law_world.specs.World.{kept_at}
use Rattle.ocm_law_world.proofs.Laws.{answered-reached}
use Rattle.ocm_law_world.proofs.grants.permissions_stay_within_the_grant_everywhere.Goals as goal

pub returns-clause-parent : goal.returns-clause-parent
returns-clause-parent c = λ w host s i p m reached is there parent. effective-below host (kept_at host s) i p m (answered-reached w host s reached is) there parent

pub returns-clause-grant : goal.returns-clause-grant
returns-clause-grant c = λ w host s i reached is. perms-within host (kept_at host s) i (answered-reached w host s reached is)
