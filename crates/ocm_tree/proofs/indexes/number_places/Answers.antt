use Rattle.std.proofs.Common.{◌≡◌, suc, ◌-◌, ◌∙◌, sym, arith}
use Rattle.ocm_tree.proofs.Numbered.{numbered-some, numbered-none, numbered-known, numbered-all}
use Rattle.ocm_tree.proofs.indexes.number_places.Goals as goal

pub set_number-requires : goal.set_number-requires
set_number-requires c =
    let next : suc (c.loop-left.left - 1) ≡ c.loop-left.left = omega arith in
    record { known = rw c.place.ensures (numbered-known c.args.slots.now c.args.places.now c.loop-left.places c.loop-left.left (c.loop-left.left - 1) c.index-slots-left.result c.in-Some.kept c.loop-left.invariant c.requires.known next (sym c.index-slots-left.is ∙ c.in-Some.is)) }

pub loop-left-preserved-in-Some : goal.loop-left-preserved-in-Some
loop-left-preserved-in-Some c =
    let next : suc (c.loop-left.left - 1) ≡ c.loop-left.left = omega arith in
    numbered-some c.args.slots.now c.args.places.now c.loop-left.places c.set_number.new.places c.loop-left.left (c.loop-left.left - 1) c.index-slots-left.result c.in-Some.kept c.loop-left.invariant next (sym c.index-slots-left.is ∙ c.in-Some.is) (rw c.place.ensures at c.set_number.ensures.places) c.set_number.ensures.spare

pub loop-left-preserved : goal.loop-left-preserved
loop-left-preserved c =
    let next : suc (c.loop-left.left - 1) ≡ c.loop-left.left = omega arith in
    numbered-none c.args.slots.now c.args.places.now c.loop-left.places c.loop-left.left (c.loop-left.left - 1) c.index-slots-left.result c.loop-left.invariant next (sym c.index-slots-left.is ∙ c.in_default.is)

pub returns-clause-found : goal.returns-clause-found
returns-clause-found c = numbered-all c.args.slots.now c.args.places.now c.loop-left.places c.loop-left.left c.loop-left.invariant (omega arith) c.requires.known
