use Rattle.std.proofs.Common.{◌∙◌, length, sym, ap, arith}
use Rattle.ocm_tree.specs.Tables.{IsLone}
use Rattle.ocm_tree.proofs.Lone.{where-lone}
use Rattle.ocm_tree.proofs.numbers.copy_numbers.Goals as goal

pub push_reserved-requires : goal.push_reserved-requires
push_reserved-requires c =
    let lone : IsLone c.args.slots.now c.args.there.now c.in-Some.index = rw c.in-Some.is at c.requires.lone in
    let one = ap length (where-lone c.args.there.now c.args.slots.now c.args.numbers.now c.in-Some.index c.requires.same lone) in
    let none = ap length c.requires.empty in
    omega (arith, one, none, c.requires.room)

pub returns-in-Some : goal.returns-in-Some
returns-in-Some c =
    let lone : IsLone c.args.slots.now c.args.there.now c.in-Some.index = rw c.in-Some.is at c.requires.lone in
    (rw c.requires.empty at c.push_reserved.ensures.items) ∙ sym (where-lone c.args.there.now c.args.slots.now c.args.numbers.now c.in-Some.index c.requires.same lone)
