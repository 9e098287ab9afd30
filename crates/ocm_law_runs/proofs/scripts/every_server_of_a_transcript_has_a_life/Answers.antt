use Rattle.ocm_law_runs.proofs.Requests.{life-of, life-on}
use Rattle.ocm_law_runs.proofs.scripts.every_server_of_a_transcript_has_a_life.Goals as goal

pub returns-clause-life : goal.returns-clause-life
returns-clause-life c = life-of

pub returns-clause-goes_on : goal.returns-clause-goes_on
returns-clause-goes_on c = λ events further text more servers final number host server ps transcript goes_on there life.
    let on = life-on events further text more servers final number host server ps transcript goes_on there life in
    (on.later, on.there, on.life, on.is, on.on)
