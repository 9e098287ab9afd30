use Rattle.ocm_law_sessions.proofs.Replying.{session-legal}
use Rattle.ocm_law_sessions.proofs.sessions.a_session_is_a_legal_history.Goals as goal

pub returns : goal.returns
returns c = session-legal
