use Rattle.ocm_law_sessions.proofs.Replying.{would_change-same, heard-same, fits-same, reply-same}
use Rattle.ocm_law_sessions.proofs.sessions.lean_lists_decide_the_replies.Goals as goal

pub returns-clause-changes : goal.returns-clause-changes
returns-clause-changes c = would_change-same

pub returns-clause-answers : goal.returns-clause-answers
returns-clause-answers c = heard-same

pub returns-clause-fits : goal.returns-clause-fits
returns-clause-fits c = fits-same

pub returns-clause-replies : goal.returns-clause-replies
returns-clause-replies c = reply-same
