use Rattle.std.proofs.Common.{◌≡◌, ◌∙◌, refl, ap, length, None, false, arith}
use Rattle.std.proofs.lemmas.List.{take_at, length-map}
use Rattle.ocm_rules.specs.declared.rows.ShareRow.{ShareRow}
use Rattle.ocm_chain.specs.declared.reaches.Row.{Row}
use Rattle.ocm_chain.specs.Hypotheses.{reaches_of}
use Rattle.ocm_chain.specs.Reaches.{owns, reach_of, reach_above}
use Rattle.ocm_chain.proofs.RightRows.{right-among, rows-marked, rows-more}
use Rattle.ocm_chain.proofs.rows.Rows.add.Goals as goal

pub reach_above-above-requires : goal.reach_above-above-requires
reach_above-above-requires c =
    let rows = c.self.inside.rows.items in
    let as_many = length-map rows (λ (r : Row). r.own) in
    let among = rw (← c.self.view_is, as_many) at c.requires.parent in
    rw c.deref.ensures.value (right-among rows (length rows) c.self.invariant.right (omega arith) c.args.share.parent among)

pub mark_parent-requires : goal.mark_parent-requires
mark_parent-requires c =
    let rows = c.self.inside.rows.items in
    let as_many = length-map rows (λ (r : Row). r.own) in
    rw (c.deref_mut.ensures.value, ← as_many) (rw (← c.self.view_is) at c.requires.parent)

pub invariant_of-self : goal.invariant_of-self
invariant_of-self c =
    let rows = c.self.inside.rows.items in
    let marked = c.mark_parent.new.rows in
    let as_many = length-map rows (λ (r : Row). r.own) in
    let few = rw (← c.self.view_is) at c.requires.few in
    let among = rw (← c.self.view_is) at c.requires.parent in
    let same : owns marked ≡ owns rows = rw c.deref_mut.ensures.value at c.mark_parent.ensures.owns in
    let reaches : reaches_of marked ≡ reaches_of rows = rw c.deref_mut.ensures.value at c.mark_parent.ensures.reaches in
    let others = rw c.deref_mut.ensures.value at c.mark_parent.ensures.others in
    let many = c.mark_parent.auto.rows ∙ ap length c.deref_mut.ensures.value in
    let are = rows-marked rows marked c.args.share.parent c.self.invariant same reaches c.mark_parent.ensures.marked others in
    let full : length marked ≡ c.self.inside.rows.len = c.mark_parent.auto.rows ∙ c.deref_mut.ensures.len in
    let items = rw (c.unwrap.ensures, take_at) at c.push.ensures.items in
    let own : ShareRow = record { share = c.args.share; perms = c.args.share.granted; closed = false; end = None } in
    let next : Row = record { own = own; reach = c.of-reach.result; is_parent = false } in
    let above = rw c.deref.ensures.value at c.reach_above-above.ensures in
    let reach : c.of-reach.result ≡ reach_of false c.args.share.granted None (reach_above (owns marked) c.args.share.parent) = c.of-reach.ensures ∙ rw (c.rights.ensures.value, above, same) refl in
    rw items (rows-more marked next are (omega (arith, few, as_many, many)) (rw same among) c.mark_parent.ensures.marked reach)
