use Rattle.std.proofs.Common.{◌≡◌, ◌∙◌, List, ap}
use Rattle.std.specs.Prelude.{map}
use Rattle.std.proofs.lemmas.Result.{IfOk-weaker}
use Rattle.ocm_path.specs.Paths.{Segments}
use Rattle.ocm_entry.specs.declared.listings.DavChild.{DavChild}
use Rattle.ocm_entry.specs.Listings.{item_in}
use Rattle.ocm_rules.specs.Files.{children}
use Rattle.ocm_rules.specs.Answers.{items_in}
use Rattle.ocm_tree.specs.Listing.{child_of}
use Rattle.ocm_tree.specs.Tables.{somes}
use Rattle.ocm_tree.proofs.Listed.{items-children}
use Rattle.ocm_tree.proofs.trees.Tree.children.Goals as goal

pub returns : goal.returns
returns c =
    let place = c.args.place.now in
    rw (← c.self.view_is)
    (IfOk-weaker c.children_of.result (λ (inside : List DavChild). inside ≡ map child_of (children (somes c.slots.result.now) place)) _
    (λ inside told path. ap (map (item_in path)) told ∙ (items-children place path (somes c.slots.result.now) ∙ ap (λ ss. items_in (somes ss) place path) c.slots.ensures.slots))
    c.children_of.ensures)

pub children_of-requires : goal.children_of-requires
children_of-requires c = record {
  same = rw (c.slots.ensures.slots, c.deref.ensures.value) c.self.invariant.also;
  tagged = rw (c.slots.ensures.slots, c.deref.ensures.value) c.self.invariant.tagged;
}
