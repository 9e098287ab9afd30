use Rattle.std.proofs.Common.{◌++◌, ◌∙◌, length, sym, ap, refl, arith}
use Rattle.std.specs.Prelude.{filter}
use Rattle.ocm_rules.proofs.Once.{once-carried}
use Rattle.ocm_law_origins.specs.Origins.{origin_stays}
use Rattle.ocm_tree.proofs.OriginLists.{length-copies}
use Rattle.ocm_tree.proofs.trees.Tree.carry.Goals as goal

pub note_numbers-requires-clause-room : goal.note_numbers-requires-clause-room
note_numbers-requires-clause-room c =
    let parts = c.into_parts-from.ensures in
    let made = ap length c.requires.copies in
    let many = length-copies c.args.planned.from c.args.planned.to c.args.self.now.nodes in
    rw parts.from (omega (arith, made, many, parts.room))

pub add_all-requires-clause-same : goal.add_all-requires-clause-same
add_all-requires-clause-same c =
    let parts = c.into_parts-from.ensures in
    let same = rw parts.from at c.note_numbers.ensures.same in
    ap length (parts.nodes ∙ c.requires.copies) ∙ (length-copies c.args.planned.from c.args.planned.to c.args.self.now.nodes ∙ (sym same ∙ sym (ap length c.deref.ensures.value)))

pub add_all-requires-clause-room : goal.add_all-requires-clause-room
add_all-requires-clause-room c =
    let made = ap length c.into_parts-from.ensures.nodes in
    omega (arith, made, c.clear.ensures.room, c.requires.room)

pub add_all-requires-clause-once : goal.add_all-requires-clause-once
add_all-requires-clause-once c =
    let planned = c.args.planned in
    let parts = c.into_parts-from.ensures in
    rw (c.clear.ensures.nodes, parts.from, parts.to, parts.moving, parts.nodes, c.requires.copies)
    (once-carried planned.from planned.to planned.moving c.args.self.now.nodes c.note_numbers.ensures.once)

pub returns-clause-nodes : goal.returns-clause-nodes
returns-clause-nodes c =
    let parts = c.into_parts-from.ensures in
    c.add_all.ensures.nodes ∙ rw (c.clear.ensures.nodes, parts.from, parts.to, parts.moving, parts.nodes, c.requires.copies) refl

pub returns-clause-origins : goal.returns-clause-origins
returns-clause-origins c =
    let planned = c.args.planned in
    let parts = c.into_parts-from.ensures in
    let old = c.args.self.now in
    let copies_of = rw parts.from at (c.note_numbers.ensures.origins planned.to) in
    c.add_all.ensures.origins
    ∙ rw (c.clear.ensures.origins, c.deref.ensures.value, parts.from, parts.to, parts.moving, parts.nodes, c.requires.copies)
    (ap (λ os. filter (origin_stays planned.from planned.to planned.moving) old.origins ++ os) copies_of)
