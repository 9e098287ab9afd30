use Rattle.std.proofs.Common.{sym}
use Rattle.ocm_law_sessions.specs.Sessions.{fault_in}
use Rattle.ocm_law_sessions.proofs.Replying.{reply-same}
use Rattle.ocm_law_openings.specs.Openings.{history_in}
use Rattle.ocm_law_openings.proofs.histories.the_one_history_decides_the_replies.Goals as goal

pub returns-clause-told : goal.returns-clause-told
returns-clause-told c = λ host p older g ask reply one told. reply-same host p.area (fault_in p.calls) (history_in p) g ask reply (sym one.same) told

pub returns-clause-back : goal.returns-clause-back
returns-clause-back c = λ host p older g ask reply one told. reply-same host p.area (fault_in p.calls) g (history_in p) ask reply one.same told
