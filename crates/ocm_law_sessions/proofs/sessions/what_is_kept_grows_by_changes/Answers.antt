use Rattle.ocm_law_sessions.proofs.Replying.{kept-given, kept-changed, kept-unchanged, lean-unchanged}
use Rattle.ocm_law_sessions.proofs.sessions.what_is_kept_grows_by_changes.Goals as goal

pub returns-clause-entry : goal.returns-clause-entry
returns-clause-entry c = kept-given

pub returns-clause-changed : goal.returns-clause-changed
returns-clause-changed c = kept-changed

pub returns-clause-unchanged : goal.returns-clause-unchanged
returns-clause-unchanged c = kept-unchanged

pub returns-clause-lean : goal.returns-clause-lean
returns-clause-lean c = lean-unchanged
