use Rattle.std.proofs.Common.{◌∙◌, ap}
use Rattle.std.specs.Prelude.{filter}
use Rattle.ocm_tree.specs.Listing.{in_order_of_names, lies_in}
use Rattle.ocm_tree.specs.Tables.{somes}
use Rattle.ocm_tree.proofs.NamesInOrder.{in_order-map}
use Rattle.ocm_tree.proofs.listing.children_of.Goals as goal

pub returns : goal.returns
returns c =
    c.from_vec.ensures
    ∙ (c.in_ok-sort_by_name.ensures
    ∙ (ap in_order_of_names c.in_ok-found.ensures
    ∙ in_order-map (filter (lies_in c.args.place.now) (somes c.args.slots.now))))
