use Rattle.ocm_law_sessions.proofs.Replying.{session-legal}
use Rattle.ocm_law_served.proofs.Answering.{answered-so, so-answered}
use Rattle.ocm_law_served.proofs.requests.a_request_is_served_exactly_where_every_link_grants_it.Goals as goal

pub returns-clause-answered : goal.returns-clause-answered
returns-clause-answered c = λ host area k h secret request reply session said. answered-so host area k h secret request reply (session-legal host area k h session) said

pub returns-clause-allowed : goal.returns-clause-allowed
returns-clause-allowed c = λ host area k h secret request reply session so. so-answered host area k h secret request reply (session-legal host area k h session) so
