use Rattle.std.proofs.Common.{sym, ◌∙◌}
use Rattle.ocm_incoming.proofs.Asking.{each_of, with-is, with-none}
use Rattle.ocm_incoming.proofs.inboxes.Inbox.with.Goals as goal

pub returns-in-Some : goal.returns-in-Some
returns-in-Some c = rw (← c.self.view_is) (each_of c.members.result _ _ c.members.ensures (with-is c.self.inside.records.rows c.args.mark.now _ c.in-Some.group c.self.invariant.by_mark (sym c.in-Some.ensures)))

pub returns-in-None : goal.returns-in-None
returns-in-None c = rw (← c.self.view_is) (c.new.ensures ∙ with-none c.self.inside.records.rows c.args.mark.now (sym c.in-None.ensures))
