use Rattle.ocm_rules.proofs.Steps.{unshare-step, decline-step, undo_notice-step}
use Rattle.ocm_rules.proofs.step_laws.ends_close_a_row.Goals as goal

pub returns-clause-unshare : goal.returns-clause-unshare
returns-clause-unshare c = unshare-step

pub returns-clause-declined : goal.returns-clause-declined
returns-clause-declined c = decline-step

pub returns-clause-undone : goal.returns-clause-undone
returns-clause-undone c = undo_notice-step
