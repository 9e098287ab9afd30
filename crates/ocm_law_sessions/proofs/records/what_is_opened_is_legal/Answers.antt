use Rattle.ocm_law_sessions.proofs.Opening.{opened-answered}
use Rattle.ocm_law_sessions.proofs.Entries.{answered-kept, answered-legal}
use Rattle.ocm_law_sessions.proofs.records.what_is_opened_is_legal.Goals as goal

pub returns-clause-answered : goal.returns-clause-answered
returns-clause-answered c = opened-answered

pub returns-clause-kept : goal.returns-clause-kept
returns-clause-kept c = λ host form records k is. answered-kept host k (opened-answered host form records k is)

pub returns-clause-legal : goal.returns-clause-legal
returns-clause-legal c = λ host form records k is. answered-legal host k (opened-answered host form records k is)
