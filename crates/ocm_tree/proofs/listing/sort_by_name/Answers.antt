use Rattle.std.proofs.Common.{rules}
use Rattle.std.proofs.lemmas.Fn.{always_returns_same}
use Rattle.ocm_tree.proofs.NamesInOrder.{less, order-less, sorted-by_names}
use Rattle.ocm_tree.proofs.listing.sort_by_name.Goals as goal

pub returns : goal.returns
returns c =
    sorted-by_names c.args.children.now.items c.sort_by.new.self.items
    (c.in_ok-sort_by.ensures.sorted less order-less (always_returns_same _ _ _ (λ a r f' k. search rules)))
    (c.sort_by.ensures.stable less order-less (always_returns_same _ _ _ (λ a r f' k. search rules)))
