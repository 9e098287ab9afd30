use Rattle.std.proofs.Common.{sym, ◌∙◌}
use Rattle.ocm_incoming.proofs.Asking.{each_of, for-is, for-none}
use Rattle.ocm_incoming.proofs.inboxes.Inbox.records_of.Goals as goal

pub returns-in-Some : goal.returns-in-Some
returns-in-Some c = rw (← c.self.view_is) (each_of c.members.result _ _ c.members.ensures (for-is c.self.inside.records.rows c.args.user.now _ c.in-Some.group c.self.invariant.by_user (sym c.in-Some.ensures)))

pub returns-in-None : goal.returns-in-None
returns-in-None c = rw (← c.self.view_is) (c.new.ensures ∙ for-none c.self.inside.records.rows c.args.user.now (sym c.in-None.ensures))
