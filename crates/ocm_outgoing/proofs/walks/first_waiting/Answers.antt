use Rattle.std.proofs.Common.{◌≢◌, arith}
use Rattle.ocm_outgoing.proofs.Reading.{at_number-index, walk-within, walk-on, walk-up, walk-found, left-less}
use Rattle.ocm_outgoing.proofs.walks.first_waiting.Goals as goal

pub returns-then-not-row : goal.returns-then-not-row
returns-then-not-row c =
    let walk = c.loop-number.invariant.walk in
    let ne : c.loop-number.number ≢ 0 = omega arith in
    let there = walk-within c.args.rows.now walk.0 walk.1 c.loop-number.number ne walk.2 in
    let row = at_number-index c.args.rows.now c.loop-number.number c.index-rows-number.result _ there.0 there.1 c.index-rows-number.is in
    λ s t from. walk-found c.args.rows.now s t c.loop-number.number _ row ne c.if-not-row.true (c.loop-number.invariant.walks s t from)

pub loop-number-smaller : goal.loop-number-smaller
loop-number-smaller c =
    let walk = c.loop-number.invariant.walk in
    let ne : c.loop-number.number ≢ 0 = omega arith in
    let there = walk-within c.args.rows.now walk.0 walk.1 c.loop-number.number ne walk.2 in
    let row = at_number-index c.args.rows.now c.loop-number.number c.index-rows-number.result _ there.0 there.1 c.index-rows-number.is in
    left-less _ c.loop-number.number _ ne there.1 (walk-up c.args.rows.now walk.0 walk.1 c.loop-number.number _ row ne walk.2)

pub loop-number-preserved : goal.loop-number-preserved
loop-number-preserved c =
    let walk = c.loop-number.invariant.walk in
    let ne : c.loop-number.number ≢ 0 = omega arith in
    let there = walk-within c.args.rows.now walk.0 walk.1 c.loop-number.number ne walk.2 in
    let row = at_number-index c.args.rows.now c.loop-number.number c.index-rows-number.result _ there.0 there.1 c.index-rows-number.is in
    record {
      walk = (walk.0, walk.1, walk-on c.args.rows.now walk.0 walk.1 c.loop-number.number _ row ne c.if-not-row.false walk.2);
      walks = λ s t from. walk-on c.args.rows.now s t c.loop-number.number _ row ne c.if-not-row.false (c.loop-number.invariant.walks s t from);
    }
