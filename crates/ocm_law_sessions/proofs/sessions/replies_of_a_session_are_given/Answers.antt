use Rattle.std.specs.Prelude.{◌++◌}
use Rattle.ocm_law_sessions.specs.Sessions.{fault_in}
use Rattle.ocm_law_sessions.proofs.Replying.{reply-given}
use Rattle.ocm_law_sessions.proofs.sessions.replies_of_a_session_are_given.Goals as goal

pub returns : goal.returns
returns c = λ host area k h ask reply told. reply-given host area (fault_in h) (h ++ k) ask reply told
