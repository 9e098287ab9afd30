use Rattle.std.proofs.Common.{◌≡◌, ◌∙◌, ap, arith}
use Rattle.ocm_rules.specs.State.{node_at}
use Rattle.ocm_tree.specs.Tables.{somes, size_at}
use Rattle.ocm_tree.proofs.NodeLists.{size_at-le-total_size}
use Rattle.ocm_tree.proofs.Slots.{in-slot}
use Rattle.ocm_tree.proofs.TableKept.{replaced-IsTable}
use Rattle.ocm_tree.proofs.nodes.NodeTable.replace.Goals as goal

pub overflow_sub-self : goal.overflow_sub-self
overflow_sub-self c =
    let older : c.size_at-older.result ≡ size_at (node_at (somes c.self.inside.slots.items) c.args.node.place) = rw (← c.self.view_is, c.place.ensures) at (c.size_at-older.ensures ∙ ap size_at c.node_at.ensures) in
    let bound = size_at-le-total_size (somes c.self.inside.slots.items) c.args.node.place in
    omega (arith, older, bound, c.self.invariant.adds_up)

pub put_in-requires : goal.put_in-requires
put_in-requires c =
    let found = rw (← c.self.view_is) at c.requires.found in
    record { within = (in-slot c.self.inside.slots.items c.args.node.place c.args.index found).1.within }

pub invariant_of-self : goal.invariant_of-self
invariant_of-self c =
    let found = rw (← c.self.view_is) at c.requires.found in
    let older : c.size_at-older.result ≡ size_at (node_at (somes c.self.inside.slots.items) c.args.node.place) = rw (← c.self.view_is, c.place.ensures) at (c.size_at-older.ensures ∙ ap size_at c.node_at.ensures) in
    let within = rw (← c.self.view_is) at c.requires.within in
    rw (c.put_in.ensures.slots, c.size_of.ensures, c.standing.ensures)
    (replaced-IsTable c.self.inside.root c.self.inside.slots.items c.args.node c.args.index c.self.inside.places c.self.inside.children c.self.inside.count c.self.inside.total c.size_at-older.result c.self.inside.rooted c.self.invariant found within older)

pub returns-clause-slots : goal.returns-clause-slots
returns-clause-slots c = rw (← c.self.view_is) c.put_in.ensures.slots
