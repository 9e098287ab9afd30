use Rattle.ocm_law_openings.proofs.Lives.{lives-along, lives-reached}
use Rattle.ocm_law_openings.proofs.worlds.every_server_has_a_life.Goals as goal

pub returns-clause-life : goal.returns-clause-life
returns-clause-life c = λ w host s reached there. lives-reached w reached host s there

pub returns-clause-goes_on : goal.returns-clause-goes_on
returns-clause-goes_on c = λ w later host s ps reached run there life.
    let on = lives-along w later host s ps run there life in
    (on.0, on.1, on.2.0, on.2.1, on.2.2)
