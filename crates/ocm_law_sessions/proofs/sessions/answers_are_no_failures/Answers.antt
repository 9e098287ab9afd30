use Rattle.std.proofs.Common.{refl}
use Rattle.ocm_rules.specs.Answers.{reply_in}
use Rattle.ocm_rules.specs.History.{kept}
use Rattle.ocm_rules.specs.Messages.{view_of}
use Rattle.ocm_law_sessions.proofs.Faultless.{answers-given}
use Rattle.ocm_law_sessions.proofs.Replying.{answer-counts}
use Rattle.ocm_law_sessions.proofs.sessions.answers_are_no_failures.Goals as goal

pub returns-clause-failure : goal.returns-clause-failure
returns-clause-failure c = λ host g ask. answers-given (view_of host (kept host g)) ask

pub returns-clause-fault : goal.returns-clause-fault
returns-clause-fault c = λ host g ask. answer-counts (view_of host (kept host g)) ask (reply_in (view_of host (kept host g)) ask) refl
