use Rattle.ocm_law_grants.proofs.Secrets.{used-different}
use Rattle.ocm_law_world.proofs.Laws.{answered-reached}
use Rattle.ocm_law_world.specs.World.{kept_at}
use Rattle.ocm_law_world.proofs.grants.keys_and_secrets_differ_everywhere.Goals as goal

pub returns : goal.returns
returns c = λ w host s reached is. used-different host (kept_at host s) (answered-reached w host s reached is)
