use Rattle.ocm_rules.proofs.Endings.{unshare-leaves, decline-leaves, undo-leaves}
use Rattle.ocm_rules.proofs.laws.ended_shares_are_no_longer_live.Goals as goal

pub returns-clause-unshared : goal.returns-clause-unshared
returns-clause-unshared c = unshare-leaves

pub returns-clause-declined : goal.returns-clause-declined
returns-clause-declined c = decline-leaves

pub returns-clause-undone : goal.returns-clause-undone
returns-clause-undone c = undo-leaves
