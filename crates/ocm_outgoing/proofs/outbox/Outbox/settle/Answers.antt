use Rattle.std.proofs.Common.{◌≡◌, ◌∙◌, sym, subst, List, true, false, rules}
use Rattle.ocm_rules.specs.State.{changed_at}
use Rattle.ocm_rules.specs.declared.rows.Subject.{Subject}
use Rattle.ocm_outgoing.specs.declared.rows.Sent.{Sent}
use Rattle.ocm_outgoing.specs.declared.rows.Thread.{Thread}
use Rattle.ocm_outgoing.specs.Threads.{IsWalk, IsFound, waiting, begins_at, thread_of, marked}
use Rattle.ocm_outgoing.proofs.Changed.{rows_of-marked}
use Rattle.ocm_outgoing.proofs.Settled.{row-there, is-there, settled-same, walk-ready, settled-first, settled-later}
use Rattle.ocm_outgoing.proofs.outbox.Outbox.settle.Goals as goal

pub returns-then-row-clause-sent : goal.returns-then-row-clause-sent
returns-then-row-clause-sent c =
    let there = row-there c.self.inside.rows.items c.args.m c.index-row.result.now c.index-row.result.now (rw (← c.self.view_is) at c.requires) c.index-row.ensures in
    rw (← c.self.view_is) (settled-same c.args.m c.self.inside.rows.items c.index-row.result.now there c.if-row.true)

pub mark-requires : goal.mark-requires
mark-requires c =
    let there = row-there c.self.inside.rows.items c.args.m c.index-row.result.now c.index-row.result.now (rw (← c.self.view_is) at c.requires) c.index-row.ensures in
    is-there _ _ there

pub first_waiting-first-requires : goal.first_waiting-first-requires
first_waiting-first-requires c =
    let there = row-there c.self.inside.rows.items c.args.m c.index-row.result.now c.index-row.result.now (rw (← c.self.view_is) at c.requires) c.index-row.ensures in
    let rows : c.deref.result.now ≡ changed_at c.args.m marked c.self.inside.rows.items = c.deref.ensures.value ∙ c.mark.ensures.rows in
    let begins : begins_at (thread_of c.self.inside.threads c.index-row.result.now.subject) c.args.m ≡ true = search rules in
    let P : List Sent → Type 0 = λ rows. (s : Subject) × (t : Thread) × IsWalk rows s t c.index-row.result.now.next in
    subst P (sym rows) (walk-ready c.args.m c.self.inside.rows.items c.index-row.result.now (thread_of c.self.inside.threads c.index-row.result.now.subject) there c.if-row.false begins (c.self.invariant.threaded c.index-row.result.now.subject))

pub invariant_of-self : goal.invariant_of-self
invariant_of-self c =
    let there = row-there c.self.inside.rows.items c.args.m c.index-row.result.now c.index-row.result.now (rw (← c.self.view_is) at c.requires) c.index-row.ensures in
    let rows : c.deref.result.now ≡ changed_at c.args.m marked c.self.inside.rows.items = c.deref.ensures.value ∙ c.mark.ensures.rows in
    let begins : begins_at (thread_of c.self.inside.threads c.index-row.result.now.subject) c.args.m ≡ true = search rules in
    let P : List Sent → Type 0 = λ rows. (s : Subject) (t : Thread) → IsWalk rows s t c.index-row.result.now.next → IsFound (waiting rows s) t.first c.first_waiting-first.result in
    rw c.mark.ensures.rows (settled-first c.args.m c.self.inside.rows.items c.index-row.result.now c.self.inside.threads c.move_first.new.threads c.self.inside.fronts.items c.go_on.new.fronts.items c.self.inside.changes c.first_waiting-first.result c.self.invariant there c.if-row.false begins (subst P rows c.first_waiting-first.ensures) c.move_first.ensures.threads c.go_on.ensures.times c.go_on.ensures.rising)

pub invariant_of-self-else-begins_at : goal.invariant_of-self-else-begins_at
invariant_of-self-else-begins_at c =
    let there = row-there c.self.inside.rows.items c.args.m c.index-row.result.now c.index-row.result.now (rw (← c.self.view_is) at c.requires) c.index-row.ensures in
    let later : begins_at (thread_of c.self.inside.threads c.index-row.result.now.subject) c.args.m ≡ false = search rules in
    rw c.mark.ensures.rows (settled-later c.args.m c.self.inside.rows.items c.index-row.result.now c.self.inside.threads c.self.inside.fronts.items c.self.inside.changes c.self.invariant there later)

pub returns-then-begins_at-clause-sent : goal.returns-then-begins_at-clause-sent
returns-then-begins_at-clause-sent c = rw (c.mark.ensures.rows, ← c.self.view_is) (rows_of-marked c.args.m c.self.inside.rows.items)

pub returns-else-begins_at-clause-sent : goal.returns-else-begins_at-clause-sent
returns-else-begins_at-clause-sent c = rw (c.mark.ensures.rows, ← c.self.view_is) (rows_of-marked c.args.m c.self.inside.rows.items)
