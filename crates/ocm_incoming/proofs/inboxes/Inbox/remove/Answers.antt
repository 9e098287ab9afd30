use Rattle.std.proofs.Common.{not, ap, sym, ◌∙◌}
use Rattle.ocm_rules.specs.Offers.{is_given_up}
use Rattle.ocm_incoming.proofs.Removing.{removed-gone, kept-gone}
use Rattle.ocm_incoming.proofs.inboxes.Inbox.remove.Goals as goal

pub returns-then-is_held-clause-records : goal.returns-then-is_held-clause-records
returns-then-is_held-clause-records c = c.set_phase.ensures.records ∙ removed-gone c.args.self.now.records c.args.number c.requires (sym (ap not (c.is_given_up-is_held.ensures ∙ ap is_given_up c.phase_at.ensures)) ∙ ap not c.if-is_held.true)

pub returns-else-is_held-clause-records : goal.returns-else-is_held-clause-records
returns-else-is_held-clause-records c = kept-gone c.args.self.now.records c.args.number c.requires (sym (ap not (c.is_given_up-is_held.ensures ∙ ap is_given_up c.phase_at.ensures)) ∙ ap not c.if-is_held.false)
