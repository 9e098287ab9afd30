use Rattle.std.proofs.Common.{ap}
use Rattle.ocm_incoming.specs.Lists.{stated}
use Rattle.ocm_incoming.proofs.Changing.{set-changed, number-within}
use Rattle.ocm_incoming.proofs.Kept.{stated-IsInbox}
use Rattle.ocm_incoming.proofs.inboxes.Inbox.set_state.Goals as goal

pub invariant_of-self : goal.invariant_of-self
invariant_of-self c =
    let there = number-within c.self.inside.requests.items c.args.r (rw (← c.self.view_is) at c.requires) in
    let set = set-changed c.self.inside.requests.items _ c.args.r (stated c.args.state) _ c.index_mut.result.now there.0 there.1 (ap (stated c.args.state) c.index_mut.ensures.value) in
    rw set (stated-IsInbox c.self.inside.records.rows c.self.inside.requests.items _ _ _ _ _ c.args.r c.args.state c.self.invariant)

pub returns-clause-requests : goal.returns-clause-requests
returns-clause-requests c =
    let there = number-within c.self.inside.requests.items c.args.r (rw (← c.self.view_is) at c.requires) in
    rw (← c.self.view_is) (set-changed c.self.inside.requests.items _ c.args.r (stated c.args.state) _ c.index_mut.result.now there.0 there.1 (ap (stated c.args.state) c.index_mut.ensures.value))
