use Rattle.ocm_outgoing.proofs.DueNumbers.{due-numbers}
use Rattle.ocm_outgoing.proofs.outbox.Outbox.due.Goals as goal

pub returns : goal.returns
returns c =
    let due = due-numbers c.self.inside.rows.items c.self.inside.threads c.self.inside.fronts.items c.self.inside.changes c.self.invariant in
    rw (← c.self.view_is) (rw (c.deref.ensures.value, c.deref-2.ensures.value, due) at c.copies.ensures)
