use Rattle.std.proofs.Common.{◌≡◌, ◌∙◌, ◌&&◌, true, sym, ap}
use Rattle.ocm_rules.specs.Files.{is_at_or_above, is_too_long}
use Rattle.ocm_tree.specs.Carries.{carried}
use Rattle.ocm_tree.proofs.Carried.{long-path}
use Rattle.ocm_tree.proofs.amounts.makes_long_path.Goals as goal

pub returns-then-holds : goal.returns-then-holds
returns-then-holds c =
    let from = c.args.from.now in
    let to = c.args.to.now in
    let node = c.args.kept.now in
    let inside : is_at_or_above from node.place ≡ true = sym c.holds.ensures ∙ c.if-holds.true in
    rw (c.joined_len.ensures.len, c.joined_len-then-holds.ensures.len, c.joined_len-then-holds-2.ensures.len, c.place.ensures, c.place-then-holds.ensures, c.place-then-holds-2.ensures)
    (long-path from to node.place inside ∙ ap (λ b. b && is_too_long (carried from to node)) (sym inside))
