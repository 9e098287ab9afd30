use Rattle.ocm_incoming.proofs.Kept.{phased-IsInbox}
use Rattle.ocm_incoming.proofs.inboxes.Inbox.set_phase.Goals as goal

pub invariant_of-self : goal.invariant_of-self
invariant_of-self c = rw (c.set_phase.ensures.rows, c.set.ensures.tags, c.set-2.ensures.tags, c.is_pending.ensures, c.is_given_up.ensures) (phased-IsInbox c.self.inside.records.rows c.self.inside.requests.items _ _ _ _ _ c.args.number c.args.phase c.self.invariant)
