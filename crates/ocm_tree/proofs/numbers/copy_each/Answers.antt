use Rattle.std.proofs.Common.{◌≡◌, ◌∙◌, ◌++◌, ◌+◌, length, drop, get_or, length-append, append_assoc, sym, ap, arith}
use Rattle.ocm_entry.specs.declared.rows.Node.{Node}
use Rattle.ocm_rules.specs.Files.{is_at_or_above}
use Rattle.ocm_tree.specs.Tables.{slot_passes}
use Rattle.ocm_tree.specs.Orders.{numbers_where}
use Rattle.ocm_tree.proofs.Parted.{where-true, where-false}
use Rattle.ocm_tree.proofs.numbers.copy_each.Goals.{then-lies_below, else-lies_below}
use Rattle.ocm_tree.proofs.numbers.copy_each.Goals as goal

pub push_reserved-requires : goal.push_reserved-requires
push_reserved-requires c =
    let at = c.loop-index in
    let p = slot_passes (λ (n : Node). is_at_or_above c.args.there.now n.place) in
    let node = c.index-slots-index.result in
    let here : get_or c.args.slots.now at.index node ≡ node = sym c.index-slots-index.is in
    let step = where-true p c.args.slots.now c.args.numbers.now at.index node c.requires.same (omega arith) (ap p here ∙ sym c.lies_below.ensures ∙ c.if-lies_below.true) in
    let all : length at.kept.items + length (numbers_where p (drop at.index c.args.slots.now) (drop at.index c.args.numbers.now)) ≡ length (numbers_where p c.args.slots.now c.args.numbers.now) = sym (length-append at.kept.items (numbers_where p (drop at.index c.args.slots.now) (drop at.index c.args.numbers.now))) ∙ ap length at.invariant.done in
    let more = ap length step in
    omega (arith, all, more, c.requires.room, at.invariant.capacity)

pub loop-index-preserved : goal.loop-index-preserved
loop-index-preserved c =
    let at = c.loop-index in
    let p = slot_passes (λ (n : Node). is_at_or_above c.args.there.now n.place) in
    let node = c.index-slots-index.result in
    let here : get_or c.args.slots.now at.index node ≡ node = sym c.index-slots-index.is in
    elim c.if-lies_below.branch [
      | then-lies_below w ↦
          let items = w.push_reserved.ensures.items in
          let step = where-true p c.args.slots.now c.args.numbers.now at.index node c.requires.same (omega arith) (ap p here ∙ sym c.lies_below.ensures ∙ w.if-lies_below.true) in
          rw w.kept-is (record {
            done = rw (items, append_assoc) (ap (λ rest. at.kept.items ++ rest) (sym step) ∙ at.invariant.done);
            capacity = omega (arith, at.invariant.capacity, w.push_reserved.ensures.capacity);
          })
      | else-lies_below w ↦
          let step = where-false p c.args.slots.now c.args.numbers.now at.index node c.requires.same (omega arith) (ap p here ∙ sym c.lies_below.ensures ∙ w.if-lies_below.false) in
          rw w.kept-is (record {
            done = ap (λ rest. at.kept.items ++ rest) (sym step) ∙ at.invariant.done;
            capacity = at.invariant.capacity;
          })
    ]
