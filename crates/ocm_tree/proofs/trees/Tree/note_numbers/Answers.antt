use Rattle.std.proofs.Common.{◌≡◌, ◌∙◌, length, sym, ap, arith}
use Rattle.ocm_entry.specs.declared.rows.Node.{Node}
use Rattle.ocm_rules.specs.Files.{is_at_or_above}
use Rattle.ocm_tree.specs.Orders.{numbers_where}
use Rattle.ocm_tree.specs.Standings.{numbers_in}
use Rattle.ocm_tree.specs.Tables.{somes}
use Rattle.ocm_tree.proofs.OriginLists.{origins-copied}
use Rattle.ocm_tree.proofs.Parted.{length-where}
use Rattle.ocm_tree.proofs.SlotNumbers.{length-in, where-in}
use Rattle.ocm_tree.proofs.trees.Tree.note_numbers.Goals as goal

pub copy_numbers-requires-clause-same : goal.copy_numbers-requires-clause-same
copy_numbers-requires-clause-same c = rw (c.slots.ensures.slots, c.numbers.ensures) c.self.invariant.same

pub copy_numbers-requires-clause-room : goal.copy_numbers-requires-clause-room
copy_numbers-requires-clause-room c =
    let below = λ (n : Node). is_at_or_above c.args.from.now n.place in
    let slots = c.self.inside.table.slots in
    let numbers = c.self.inside.numbers.numbers in
    let found = ap length (where-in below slots numbers c.self.invariant.same) in
    let many = length-where below (somes slots) (numbers_in slots numbers) (length-in slots numbers c.self.invariant.same) in
    let room = rw (← c.self.view_is) at c.requires.room in
    rw (c.new.ensures, c.slots.ensures.slots, c.numbers.ensures) (omega (arith, found, many, room))

pub copy_numbers-requires-clause-lone : goal.copy_numbers-requires-clause-lone
copy_numbers-requires-clause-lone c = rw (c.new.ensures, c.slots.ensures.slots) c.lone_slot.ensures

pub returns : goal.returns
returns c =
    let below = λ (n : Node). is_at_or_above c.args.from.now n.place in
    let slots = c.self.inside.table.slots in
    let numbers = c.self.inside.numbers.numbers in
    let both = length-in slots numbers c.self.invariant.same in
    let kept : c.copy_numbers.new.kept.items ≡ numbers_where below (somes slots) (numbers_in slots numbers) =
    c.copy_numbers.ensures ∙ rw (c.new.ensures, c.slots.ensures.slots, c.numbers.ensures) (where-in below slots numbers c.self.invariant.same) in
    rw (← c.self.view_is) (record {
      same = ap length kept ∙ length-where below (somes slots) (numbers_in slots numbers) both;
      origins = λ to. rw kept (sym (origins-copied c.args.from.now to (somes slots) (numbers_in slots numbers) both));
      once = c.slots.ensures.once;
    })
