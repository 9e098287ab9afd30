use Rattle.ocm_store.proofs.Opens.{opens-kept, opens-legal}
use Rattle.ocm_store.proofs.laws.what_opens_begins_a_session.Goals as goal

pub returns-clause-legal : goal.returns-clause-legal
returns-clause-legal c = opens-legal

pub returns-clause-kept : goal.returns-clause-kept
returns-clause-kept c = opens-kept

pub returns-clause-session : goal.returns-clause-session
returns-clause-session c = λ host area size k bytes opens. opens-legal host area k bytes opens
