use Rattle.std.proofs.Common.{refl}
use Rattle.ocm_entry.specs.declared.replies.Reply.TheVariants.{DiskFault, JournalFull, Stopped}
use Rattle.ocm_law_sessions.proofs.Replying.{session-legal}
use Rattle.ocm_law_served.proofs.Answering.{failure-granted, fault-so, full-so, stopped-so}
use Rattle.ocm_law_served.proofs.requests.other_replies_come_to_granted_changes_alone.Goals as goal

pub returns-clause-stopped : goal.returns-clause-stopped
returns-clause-stopped c = λ host area k h secret request count session said.
    let granted = failure-granted host area k h secret request (Stopped count) (session-legal host area k h session) refl (λ e. cc) said in
    let so = stopped-so host area k h secret request count said in
    (granted, so.0, so.1)

pub returns-clause-full : goal.returns-clause-full
returns-clause-full c = λ host area k h secret request session said.
    let granted = failure-granted host area k h secret request JournalFull (session-legal host area k h session) refl (λ e. cc) said in
    let so = full-so host area k h secret request said in
    (granted, so.0, so.1, so.2)

pub returns-clause-fault : goal.returns-clause-fault
returns-clause-fault c = λ host area k h secret request count session said.
    let granted = failure-granted host area k h secret request (DiskFault count) (session-legal host area k h session) refl (λ e. cc) said in
    let so = fault-so host area k h secret request count said in
    (granted, so.0, so.1, so.2)
