use Rattle.ocm_law_sessions.proofs.Replying.{session-legal}
use Rattle.ocm_law_served.proofs.Answering.{not_permitted-short, served-so, short-so, unauthorized-unheld, unheld-so}
use Rattle.ocm_law_served.proofs.requests.each_refusal_comes_exactly_there.Goals as goal

pub returns-clause-served : goal.returns-clause-served
returns-clause-served c = λ host area k h secret request root reply session granted said. served-so host area k h secret request root reply (session-legal host area k h session) granted said

pub returns-clause-short : goal.returns-clause-short
returns-clause-short c = λ host area k h secret request reply session short said. short-so host area k h secret request reply (session-legal host area k h session) short said

pub returns-clause-unheld : goal.returns-clause-unheld
returns-clause-unheld c = λ host area k h secret request reply session unheld said. unheld-so host area k h secret request reply (session-legal host area k h session) unheld said

pub returns-clause-unauthorized : goal.returns-clause-unauthorized
returns-clause-unauthorized c = λ host area k h secret request session said. unauthorized-unheld host area k h secret request (session-legal host area k h session) said

pub returns-clause-not_permitted : goal.returns-clause-not_permitted
returns-clause-not_permitted c = λ host area k h secret request session said. not_permitted-short host area k h secret request (session-legal host area k h session) said
