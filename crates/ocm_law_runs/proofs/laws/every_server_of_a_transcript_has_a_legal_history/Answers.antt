use Rattle.ocm_law_sessions.proofs.Replying.{session-legal}
use Rattle.ocm_script_run.specs.Servers.{area}
use Rattle.ocm_law_runs.proofs.Transcripts.{session-of-transcript}
use Rattle.ocm_law_runs.proofs.laws.every_server_of_a_transcript_has_a_legal_history.Goals as goal

pub returns-clause-session : goal.returns-clause-session
returns-clause-session c = session-of-transcript

pub returns-clause-legal : goal.returns-clause-legal
returns-clause-legal c = λ events text final host server transcript there. session-legal host area server.base server.calls (session-of-transcript events text final host server transcript there)
