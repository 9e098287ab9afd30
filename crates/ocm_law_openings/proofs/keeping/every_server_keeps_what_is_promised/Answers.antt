use Rattle.ocm_law_openings.proofs.Lives.{lives-along}
use Rattle.ocm_law_openings.proofs.Promises.{keeps-on, keeps-reached}
use Rattle.ocm_law_openings.proofs.keeping.every_server_keeps_what_is_promised.Goals as goal

pub returns-clause-keeps : goal.returns-clause-keeps
returns-clause-keeps c = keeps-reached

pub returns-clause-goes_on : goal.returns-clause-goes_on
returns-clause-goes_on c = λ w later host s ps reached run there life.
    let on = lives-along w later host s ps run there life in
    let gone = keeps-on host on.0 ps on.2.0 on.2.1 on.2.2 in
    (on.0, on.1, gone.p, gone.older, gone.life, gone.on, gone.keeps)
