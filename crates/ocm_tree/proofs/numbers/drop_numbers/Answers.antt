use Rattle.std.proofs.Common.{◌≡◌, ◌∙◌, ◌++◌, ◌∷◌, ◌<◌, ◌+◌, ℕ, length, drop, take, get_or, append_assoc, sym, ap, arith}
use Rattle.std.proofs.lemmas.List.{length-set, drop-set-lt, take_more_set, get_or_default}
use Rattle.ocm_entry.specs.declared.rows.Node.{Node}
use Rattle.std.specs.Prelude.{Option, Bool, is_some}
use Rattle.ocm_tree.specs.Orders.{numbers_where}
use Rattle.ocm_tree.proofs.Parted.{where-true, where-false, left-further, left-first}
use Rattle.ocm_tree.proofs.numbers.drop_numbers.Goals.{then-is_some, else-is_some}
use Rattle.ocm_tree.proofs.numbers.drop_numbers.Goals as goal

pub loop-index-preserved : goal.loop-index-preserved
loop-index-preserved c =
    let at = c.loop-index in
    let nodes = c.args.slots.now in
    let xs = at.numbers.items in
    let olds = c.args.numbers.now.items in
    let p : Option Node → Bool = is_some in
    let node = c.index-slots-index.result in
    let here : get_or nodes at.index node ≡ node = sym c.index-slots-index.is in
    elim c.if-is_some.branch [
      | then-is_some w ↦
          let number = w.index.result.now in
          let within : at.index < length xs = omega (arith, at.invariant.len) in
          let written : at.kept < length xs = omega (arith, at.invariant.within, within) in
          let read : number ≡ get_or olds at.index 0 = w.index.ensures ∙ (get_or_default xs at.index number 0 within ∙ left-first xs olds at.index at.invariant.left) in
          let step = where-true p nodes olds at.index node c.requires (omega arith) (ap p here ∙ sym c.is_some.ensures ∙ w.if-is_some.true) in
          rw (w.numbers-is, w.kept-is) (record {
            within = omega (arith, at.invariant.within);
            len = length-set xs at.kept number ∙ at.invariant.len;
            left = drop-set-lt (at.index + 1) xs at.kept number (omega (arith, at.invariant.within)) ∙ left-further xs olds at.index at.invariant.left;
            done = rw (take_more_set xs at.kept number written, append_assoc) (ap (λ (m : ℕ). take at.kept xs ++ m ∷ numbers_where p (drop (at.index + 1) nodes) (drop (at.index + 1) olds)) read ∙ (ap (λ rest. take at.kept xs ++ rest) (sym step) ∙ at.invariant.done));
            capacity = at.invariant.capacity;
          })
      | else-is_some w ↦
          let step = where-false p nodes olds at.index node c.requires (omega arith) (ap p here ∙ sym c.is_some.ensures ∙ w.if-is_some.false) in
          rw (w.numbers-is, w.kept-is) (record {
            within = omega (arith, at.invariant.within);
            len = at.invariant.len;
            left = left-further xs olds at.index at.invariant.left;
            done = ap (λ rest. take at.kept xs ++ rest) (sym step) ∙ at.invariant.done;
            capacity = at.invariant.capacity;
          })
    ]
