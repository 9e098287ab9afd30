use Rattle.std.proofs.Common.{◌≡◌, ◌∙◌, ◌++◌, ◌∷◌, [], true, List, refl, sym, ap, subst}
use Rattle.std.specs.Prelude.{OnOk}
use Rattle.ocm_entry.specs.declared.listings.DavChild.{DavChild}
use Rattle.ocm_entry.specs.declared.rows.Place.{Place}
use Rattle.ocm_entry.specs.declared.rows.Node.{Node}
use Rattle.ocm_rules.specs.Files.{same_place, parent_of}
use Rattle.ocm_tree.specs.Listing.{child_of, lies_in, listed}
use Rattle.ocm_tree.proofs.SlotLists.{added-none, added-out}
use Rattle.ocm_tree.proofs.listing.push_child.Goals as goal

pub returns-then-is_parent : goal.returns-then-is_parent
returns-then-is_parent c =
    let place = c.args.place.now in
    let f : Node → DavChild = child_of in
    let xs = c.args.found.now.items in
    let kept = c.in-Some.kept in
    let inside : same_place (parent_of kept.place) place ≡ true = ap (λ (q : Place). same_place (parent_of q) place) (sym c.place.ensures) ∙ (sym c.is_parent.ensures ∙ c.if-is_parent.true) in
    let here : listed f (lies_in place) c.args.slot.now ≡ f kept ∷ [] = rw (c.in-Some.is, inside) refl in
    let Q : Node → Type 0 = λ n. OnOk c.push_node.result (c.push_node.new.found.items ≡ xs ++ f n ∷ []) in
    let P : List DavChild → Type 0 = λ l. OnOk c.push_node.result (c.push_node.new.found.items ≡ xs ++ l) in
    subst P (sym here) (subst Q c.node.ensures c.push_node.ensures)

pub returns-else-is_parent : goal.returns-else-is_parent
returns-else-is_parent c =
    let place = c.args.place.now in
    let f : Node → DavChild = child_of in
    let xs = c.args.found.now.items in
    let outside = ap (λ (q : Place). same_place (parent_of q) place) (sym c.place.ensures) ∙ (sym c.is_parent.ensures ∙ c.if-is_parent.false) in
    added-out f (lies_in place) c.args.slot.now c.in-Some.kept xs xs c.in-Some.is outside refl

pub returns-in_default : goal.returns-in_default
returns-in_default c =
    let place = c.args.place.now in
    let f : Node → DavChild = child_of in
    let xs = c.args.found.now.items in
    added-none f (lies_in place) c.args.slot.now xs xs c.in_default.is refl
