use Rattle.ocm_law_world.proofs.Laws.{legal-reached}
use Rattle.ocm_law_world.proofs.Steps.{sessions-reached}
use Rattle.ocm_law_world.proofs.grants.every_server_has_a_legal_history.Goals as goal

pub returns-clause-session : goal.returns-clause-session
returns-clause-session c = λ w host s reached is. sessions-reached w reached host s is

pub returns-clause-legal : goal.returns-clause-legal
returns-clause-legal c = legal-reached
