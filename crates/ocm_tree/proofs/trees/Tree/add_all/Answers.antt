use Rattle.std.proofs.Common.{◌≡◌, ◌++◌, ◌∙◌, length, length-append, map, Some, refl, sym, ap, arith}
use Rattle.std.proofs.lemmas.List.{length-map}
use Rattle.ocm_entry.specs.declared.rows.Node.{Node}
use Rattle.ocm_tree.specs.Standings.{origins_of, numbers_in}
use Rattle.ocm_tree.specs.Tables.{somes}
use Rattle.ocm_tree.specs.Tags.{parent_tag}
use Rattle.ocm_tree.proofs.OriginLists.{origins-append}
use Rattle.ocm_tree.proofs.SlotNumbers.{length-in, length-more, more-in, somes-more}
use Rattle.ocm_tree.proofs.SlotTags.{tags-more}
use Rattle.ocm_tree.proofs.trees.Tree.add_all.Goals as goal

pub push_tags-requires : goal.push_tags-requires
push_tags-requires c =
    let given = ap length c.deref.ensures.value in
    let room = rw (← c.self.view_is) at c.requires.room in
    omega (arith, given, room)

pub add_all-requires : goal.add_all-requires
add_all-requires c =
    let room = rw (← c.self.view_is) at c.requires.room in
    record {
      room = omega (arith, room);
      once = rw (← c.self.view_is) at c.requires.once;
      few = rw (← c.self.view_is) at c.requires.few;
      light = rw (← c.self.view_is) at c.requires.light;
    }

pub extend-requires : goal.extend-requires
extend-requires c =
    let room = rw (← c.self.view_is) at c.requires.room in
    omega (arith, room, c.requires.same)

pub invariant_of-self : goal.invariant_of-self
invariant_of-self c =
    let added = c.args.nodes.items in
    let slots = c.self.inside.table.slots in
    let tags = c.self.inside.tags.items in
    let first = length-more slots added in
    let second = length-append c.self.inside.numbers.numbers c.args.numbers.now in
    let tagged : c.push_tags.new.tags.items ≡ tags ++ map parent_tag added = c.push_tags.ensures ∙ ap (λ ns. tags ++ map parent_tag ns) c.deref.ensures.value in
    let all = length-map added parent_tag in
    let third = length-append tags (map parent_tag added) in
    rw (c.add_all.ensures.slots, c.extend.ensures, tagged) (record {
      same = omega (arith, first, second, c.requires.same, c.self.invariant.same);
      also = omega (arith, all, first, third, c.self.invariant.also);
      tagged = tags-more slots tags added (map parent_tag added) c.self.invariant.also (sym all) refl c.self.invariant.tagged;
    })

pub returns-clause-nodes : goal.returns-clause-nodes
returns-clause-nodes c = rw (c.add_all.ensures.slots, ← c.self.view_is) (somes-more c.self.inside.table.slots c.args.nodes.items)

pub returns-clause-origins : goal.returns-clause-origins
returns-clause-origins c =
    let added = c.args.nodes.items in
    let more = c.args.numbers.now in
    let slots = c.self.inside.table.slots in
    let numbers = c.self.inside.numbers.numbers in
    rw (c.add_all.ensures.slots, c.extend.ensures, ← c.self.view_is)
    (ap (λ ns. origins_of ns (numbers_in (slots ++ map (λ (n : Node). Some n) added) (numbers ++ more))) (somes-more slots added)
    ∙ (ap (origins_of (somes slots ++ added)) (more-in slots numbers added more c.self.invariant.same c.requires.same)
    ∙ origins-append (somes slots) added (numbers_in slots numbers) more (length-in slots numbers c.self.invariant.same)))
