use Rattle.std.proofs.Common.{◌≡◌, ◌≤◌, ◌<◌, ◌+◌, ◌∙◌, ◌||◌, ℕ, Bool, true, false, zero, suc, [], ◌∷◌, length, take, get_or, refl, sym, ap, arith}
use Rattle.std.specs.Prelude.{Option, sum_by}
use Rattle.std.specs.List.{list_any}
use Rattle.std.proofs.lemmas.List.Sums.{sum_by-cons}
use Rattle.ocm_entry.specs.declared.rows.Node.{Node}
use Rattle.ocm_tree.specs.declared.amounts.Amount.TheVariants.{Bytes, Nodes, Siblings}
use Rattle.ocm_tree.specs.Tables.{Slots}
use Rattle.ocm_tree.specs.Carries.{amount_in, makes_long}
use Rattle.ocm_tree.proofs.amounts.amounts_after.Goals as goal

-- the sum of the first slots and of the next is no more than that of all
sum-within : (f : Option Node → ℕ) (slots : Slots) (i : ℕ) (d : Option Node) → i < length slots → sum_by f (take i slots) + f (get_or slots i d) ≤ sum_by f slots
sum-within f [] i d l = absurd (omega arith)
sum-within f (s ∷ slots) zero d l = let all = sum_by-cons f s slots in omega (arith, all)
sum-within f (s ∷ slots) (suc i) d l =
    let rest = sum-within f slots i d (omega (arith, l)) in
    let all = sum_by-cons f s slots in
    let part = sum_by-cons f s (take i slots) in
    omega (arith, rest, all, part)

-- the sum of the first slots with the next
sum-more : (f : Option Node → ℕ) (slots : Slots) (i : ℕ) (d : Option Node) → i < length slots → sum_by f (take (i + 1) slots) ≡ sum_by f (take i slots) + f (get_or slots i d)
sum-more f slots i d l = let e : i + 1 ≡ suc i = omega arith in rw e (by_number slots i l)
  where
    by_number : (ss : Slots) (j : ℕ) → j < length ss → sum_by f (take (suc j) ss) ≡ sum_by f (take j ss) + f (get_or ss j d)
    by_number [] j k = absurd (omega arith)
    by_number (s ∷ ss) zero k = let all = sum_by-cons f s [] in omega (arith, all)
    by_number (s ∷ ss) (suc j) k =
        let rest = by_number ss j (omega (arith, k)) in
        let all = sum_by-cons f s (take (suc j) ss) in
        let part = sum_by-cons f s (take j ss) in
        omega (arith, rest, all, part)

-- whether one of the first slots or the next passes a test
any-more : (p : Option Node → Bool) (slots : Slots) (i : ℕ) (d : Option Node) → i < length slots → list_any p (take (i + 1) slots) ≡ (list_any p (take i slots) || p (get_or slots i d))
any-more p slots i d l = let e : i + 1 ≡ suc i = omega arith in rw e (by_number slots i l)
  where
    swapped : (b : Bool) → (b || false) ≡ b
    swapped true = refl
    swapped false = refl

    either : (b c e : Bool) → (b || (c || e)) ≡ ((b || c) || e)
    either true c e = refl
    either false c e = refl

    by_number : (ss : Slots) (j : ℕ) → j < length ss → list_any p (take (suc j) ss) ≡ (list_any p (take j ss) || p (get_or ss j d))
    by_number [] j k = absurd (omega arith)
    by_number (s ∷ ss) zero k = swapped (p s)
    by_number (s ∷ ss) (suc j) k = ap (λ b. p s || b) (by_number ss j (omega (arith, k))) ∙ either (p s) (list_any p (take j ss)) (p (get_or ss j d))

pub amounts_in-more-requires : goal.amounts_in-more-requires
amounts_in-more-requires c =
    let f = amount_in Bytes c.args.from.now c.args.to.now c.args.moving in
    let within = sum-within f c.args.slots.now c.loop-slot.slot-index c.slot-item.result c.loop-slot-test.true in
    let here = ap f c.slot-item.is in
    let all = c.requires Bytes in
    omega (arith, within, here, all)

pub overflow_add-bytes : goal.overflow_add-bytes
overflow_add-bytes c =
    let f = amount_in Bytes c.args.from.now c.args.to.now c.args.moving in
    let within = sum-within f c.args.slots.now c.loop-slot.slot-index c.slot-item.result c.loop-slot-test.true in
    let here = ap f c.slot-item.is in
    let all = c.requires Bytes in
    omega (arith, within, here, all, c.loop-slot.invariant.bytes, c.amounts_in-more.ensures.amounts.bytes)

pub overflow_add-nodes : goal.overflow_add-nodes
overflow_add-nodes c =
    let f = amount_in Nodes c.args.from.now c.args.to.now c.args.moving in
    let within = sum-within f c.args.slots.now c.loop-slot.slot-index c.slot-item.result c.loop-slot-test.true in
    let here = ap f c.slot-item.is in
    let all = c.requires Nodes in
    omega (arith, within, here, all, c.loop-slot.invariant.nodes, c.amounts_in-more.ensures.amounts.nodes)

pub overflow_add-siblings : goal.overflow_add-siblings
overflow_add-siblings c =
    let f = amount_in Siblings c.args.from.now c.args.to.now c.args.moving in
    let within = sum-within f c.args.slots.now c.loop-slot.slot-index c.slot-item.result c.loop-slot-test.true in
    let here = ap f c.slot-item.is in
    let all = c.requires Siblings in
    omega (arith, within, here, all, c.loop-slot.invariant.siblings, c.amounts_in-more.ensures.amounts.siblings)

pub loop-slot-preserved : goal.loop-slot-preserved
loop-slot-preserved c =
    let from = c.args.from.now in
    let to = c.args.to.now in
    let slots = c.args.slots.now in
    let i = c.loop-slot.slot-index in
    let d = c.slot-item.result in
    let more = c.amounts_in-more.ensures in
    let bytes = sum-more (amount_in Bytes from to c.args.moving) slots i d c.loop-slot-test.true in
    let bytes-here = ap (amount_in Bytes from to c.args.moving) c.slot-item.is in
    let nodes = sum-more (amount_in Nodes from to c.args.moving) slots i d c.loop-slot-test.true in
    let nodes-here = ap (amount_in Nodes from to c.args.moving) c.slot-item.is in
    let siblings = sum-more (amount_in Siblings from to c.args.moving) slots i d c.loop-slot-test.true in
    let siblings-here = ap (amount_in Siblings from to c.args.moving) c.slot-item.is in
    record {
      bytes = omega (arith, bytes, bytes-here, c.loop-slot.invariant.bytes, more.amounts.bytes);
      nodes = omega (arith, nodes, nodes-here, c.loop-slot.invariant.nodes, more.amounts.nodes);
      siblings = omega (arith, siblings, siblings-here, c.loop-slot.invariant.siblings, more.amounts.siblings);
      long =
          c.is_either-long.ensures
          ∙ (ap (λ b. b || c.amounts_in-more.result.long) c.loop-slot.invariant.long
          ∙ (ap (λ b. list_any (makes_long from to) (take i slots) || b) (more.long ∙ ap (makes_long from to) c.slot-item.is) ∙ sym (any-more (makes_long from to) slots i d c.loop-slot-test.true)));
    }
