use Rattle.std.proofs.Common.{◌≡◌, List, length, map, ap, subst, ◌∙◌}
use Rattle.std.specs.Prelude.{IfOk, filter}
use Rattle.std.specs.List.{range_with_len}
use Rattle.ocm_chain.specs.declared.answers.Change.{Change}
use Rattle.ocm_chain.specs.Hypotheses.{change_among, change_alone, is_told_among, reaches_of, told_by}
use Rattle.ocm_chain.specs.Lists.{changes_by}
use Rattle.ocm_chain.specs.Reaches.{owns, reach_at}
use Rattle.ocm_chain.proofs.Hypothesis.{changed-is}
use Rattle.ocm_chain.proofs.Alone.{changes-alone}
use Rattle.ocm_chain.proofs.rows.Rows.changed.Goals as goal

pub reach_alone-after-requires-clause-lower : goal.reach_alone-after-requires-clause-lower
reach_alone-after-requires-clause-lower g c = rw c.deref.ensures.value c.self.invariant.lower

pub reach_alone-after-requires-clause-right : goal.reach_alone-after-requires-clause-right
reach_alone-after-requires-clause-right g c = rw c.deref.ensures.value c.self.invariant.right

pub returns-then-not-row-clause-changed : goal.returns-then-not-row-clause-changed
returns-then-not-row-clause-changed g c =
    let rows = c.self.inside.rows.items in
    let own = rw (← c.self.view_is) at c.at-row.ensures.own in
    let reach = rw (← c.self.view_is) at c.at-row.ensures.reach in
    let childless = rw (← c.self.view_is) at (c.at-row.ensures.childless c.if-not-row.true) in
    let after = rw (c.deref.ensures.value, c.rights.ensures.value) at c.reach_alone-after.ensures in
    let closed = c.at-row.result.now.own.closed in
    let told = changes-alone c.args.moment (owns rows) c.args.id c.at-row.result.now.own c.args.perms closed c.self.invariant.lower childless own in
    let both = ap (λ r. change_alone c.args.id (told_by c.args.moment r c.reach_alone-after.result)) reach
    ∙ ap (λ r. change_alone c.args.id (told_by c.args.moment (reach_at (owns rows) c.args.id) r)) after in
    let P : List Change → Type 0 = λ cs. IfOk c.changes_alone.result (λ list. list ≡ cs) in
    rw (← c.self.view_is) (subst P (both ∙ told) c.changes_alone.ensures)

pub returns-clause-changed : goal.returns-clause-changed
returns-clause-changed g c =
    let rows = c.self.inside.rows.items in
    let there = rw (← c.self.view_is) at c.at-row.ensures.own in
    let after = rw (c.deref-2.ensures.value, c.rights-2.ensures.value) at c.in_ok-after.ensures in
    let told : map (change_among c.deref-4.result.now) (filter (is_told_among c.args.moment (reaches_of c.deref-3.result.now) c.deref-4.result.now) (range_with_len 1 (length c.deref-3.result.now))) ≡ changes_by c.args.moment (owns rows) c.args.id c.args.perms =
    rw (c.deref-3.ensures.value, c.deref-4.ensures.value) (changed-is c.args.moment rows c.in_ok-after.after.items c.args.id c.at-row.result.now.own c.args.perms c.at-row.result.now.own.closed c.self.invariant.right there after) in
    let P : List Change → Type 0 = λ cs. IfOk c.changes_among.result (λ list. list ≡ cs) in
    rw (← c.self.view_is) (subst P told c.changes_among.ensures)
