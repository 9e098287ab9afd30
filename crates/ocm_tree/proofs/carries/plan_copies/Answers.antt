use Rattle.std.proofs.Common.{◌≡◌, ◌++◌, ◌∷◌, [], ◌&&◌, Bool, true, false, refl, sym, ◌∙◌}
use Rattle.ocm_entry.specs.declared.rows.Node.{Node}
use Rattle.ocm_rules.specs.Files.{is_at_or_above, is_too_long}
use Rattle.ocm_tree.specs.Carries.{carried, makes_long_path}
use Rattle.ocm_tree.proofs.SlotLists.{kept-more, added-none, added-out, added-in, any-at}
use Rattle.ocm_tree.proofs.carries.plan_copies.Goals.{in-Some+then-holds+in_ok-plan_copy+in_ok-push, in-Some+else-holds, in_default}
use Rattle.ocm_tree.proofs.carries.plan_copies.Goals as goal

and-false : (b c : Bool) → (b && c) ≡ false → b ≡ true → c ≡ false
and-false true c h e = h
and-false false c h e = absurd (cc)

pub plan_copy-requires : goal.plan_copy-requires
plan_copy-requires c =
    let n = c.in-Some.kept in
    let no = any-at (makes_long_path c.args.from.now c.args.to.now) c.args.slots.now c.loop-slot.slot-index c.slot-item.result n c.loop-slot-test.true (sym c.slot-item.is ∙ c.in-Some.is) c.requires.within in
    record { within = and-false (is_at_or_above c.args.from.now n.place) (is_too_long (carried c.args.from.now c.args.to.now n)) no (sym (rw c.new-branch.ensures at c.holds.ensures) ∙ c.if-holds.true) }

pub loop-slot-preserved : goal.loop-slot-preserved
loop-slot-preserved c =
    let f : Node → Node = carried c.args.from.now c.args.to.now in
    let p : Node → Bool = λ n. is_at_or_above c.args.from.now n.place in
    let d = c.slot-item.result in
    let xs = c.loop-slot.planned.items in
    elim c.match-slot.branch [
      | in-Some+then-holds+in_ok-plan_copy+in_ok-push w ↦
          rw (w.planned-is, w.in_ok-push.ensures.items, w.in_ok-plan_copy.ensures)
          (kept-more f p c.args.slots.now c.loop-slot.slot-index d xs (xs ++ f w.in-Some.kept ∷ []) c.loop-slot-test.true c.slot-item.is c.loop-slot.invariant (added-in f p d w.in-Some.kept xs (xs ++ f w.in-Some.kept ∷ []) w.in-Some.is (sym (rw c.new-branch.ensures at w.holds.ensures) ∙ w.if-holds.true) refl))
      | in-Some+else-holds w ↦
          rw w.planned-is
          (kept-more f p c.args.slots.now c.loop-slot.slot-index d xs xs c.loop-slot-test.true c.slot-item.is c.loop-slot.invariant (added-out f p d w.in-Some.kept xs xs w.in-Some.is (sym (rw c.new-branch.ensures at w.holds.ensures) ∙ w.if-holds.false) refl))
      | in_default w ↦
          rw w.planned-is
          (kept-more f p c.args.slots.now c.loop-slot.slot-index d xs xs c.loop-slot-test.true c.slot-item.is c.loop-slot.invariant (added-none f p d xs xs w.in_default.is refl))
    ]
