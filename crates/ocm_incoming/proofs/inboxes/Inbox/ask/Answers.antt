use Rattle.ocm_incoming.proofs.Kept.{asked-IsInbox}
use Rattle.ocm_incoming.proofs.inboxes.Inbox.ask.Goals as goal

pub invariant_of-self : goal.invariant_of-self
invariant_of-self c =
    let items = c.push_reserved.ensures.items in
    let there = rw (← c.self.view_is) at c.requires.there in
    let few = rw (← c.self.view_is) at c.requires.few in
    rw (c.push.ensures.groups, items) (asked-IsInbox c.self.inside.records.rows c.self.inside.requests.items _ _ _ _ _ c.args.request _ c.self.invariant few there c.group_of-group.ensures)
