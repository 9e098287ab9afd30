use Rattle.ocm_law_grants.proofs.Chains.{chained-all}
use Rattle.ocm_law_world.specs.World.{kept_at}
use Rattle.ocm_law_world.proofs.Laws.{answered-reached}
use Rattle.ocm_law_world.proofs.grants.shares_lie_below_their_parents_everywhere.Goals as goal

pub returns : goal.returns
returns c = λ w host s i p m reached is there parent. let r = chained-all host (kept_at host s) (answered-reached w host s reached is) i m there p parent in (r.0, r.1, r.2, r.3)
