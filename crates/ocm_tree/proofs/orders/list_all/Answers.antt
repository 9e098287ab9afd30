use Rattle.std.proofs.Common.{◌≡◌, ◌∙◌, ◌+◌, ◌++◌, ◌∷◌, [], length, take, get_or, length-take, sym, ap, arith}
use Rattle.std.proofs.lemmas.List.{take_more}
use Rattle.ocm_tree.specs.Orders.{numbered}
use Rattle.ocm_tree.proofs.NumberCounts.{numbered-push, node_of}
use Rattle.ocm_tree.proofs.orders.list_all.Goals as goal

pub loop-index-preserved : goal.loop-index-preserved
loop-index-preserved c =
    let at = c.loop-index in
    let number = get_or c.args.numbers.now at.index 0 in
    let order = c.push_reserved.ensures.items in
    let more = take_more c.args.numbers.now at.index 0 (omega arith) in
    let long : at.index ≡ 0 + length (take at.index c.args.numbers.now) = simp length-take (omega arith) in
    record {
      nodes = order ∙ (ap (λ nodes. nodes ++ node_of number at.index ∷ []) at.invariant.nodes ∙ (sym (numbered-push 0 at.index number (take at.index c.args.numbers.now) long) ∙ ap (numbered 0) (sym more)));
      len = omega (arith, c.push_reserved.ensures.len, at.invariant.len);
      capacity = omega (arith, at.invariant.capacity, c.push_reserved.ensures.capacity);
    }
