use Rattle.std.proofs.Common.{◌++◌}
use Rattle.ocm_rules.specs.History.{kept}
use Rattle.ocm_rules.proofs.Kept.{kept-answered}
use Rattle.ocm_law_sessions.proofs.Replying.{session-legal}
use Rattle.ocm_law_served.proofs.Answering.{so-answered, unheld-so}
use Rattle.ocm_law_served.proofs.Granting.{ended-unheld}
use Rattle.ocm_law_served.proofs.requests.nobody_holds_the_secret_of_what_has_ended.Goals as goal

pub returns-clause-unheld : goal.returns-clause-unheld
returns-clause-unheld c = λ host g i m legal is ended. ended-unheld host (kept host g) i m (kept-answered host g legal) is ended

pub returns-clause-refused : goal.returns-clause-refused
returns-clause-refused c = λ host area k h i m request reply session is ended so.
    let legal = session-legal host area k h session in
    let unheld = ended-unheld host (kept host (h ++ k)) i m (kept-answered host (h ++ k) legal) is ended in
    unheld-so host area k h m.secret request reply legal unheld (so-answered host area k h m.secret request reply legal so)
