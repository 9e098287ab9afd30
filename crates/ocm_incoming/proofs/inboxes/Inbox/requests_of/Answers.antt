use Rattle.std.proofs.Common.{sym, ◌∙◌}
use Rattle.ocm_incoming.proofs.Asking.{each_of, asked-is, asked-none}
use Rattle.ocm_incoming.proofs.inboxes.Inbox.requests_of.Goals as goal

pub returns-in-Some : goal.returns-in-Some
returns-in-Some c = rw (← c.self.view_is) (each_of c.members.result _ _ c.members.ensures (asked-is c.self.inside.records.rows c.self.inside.requests.items _ _ c.args.user.now c.in-Some.group c.self.invariant.by_user c.self.invariant.by_asker c.self.invariant.there (sym c.in-Some.ensures)))

pub returns-in-None : goal.returns-in-None
returns-in-None c = rw (← c.self.view_is) (c.new.ensures ∙ asked-none c.self.inside.records.rows c.self.inside.requests.items c.args.user.now (sym c.in-None.ensures))
