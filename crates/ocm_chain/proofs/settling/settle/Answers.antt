use Rattle.std.proofs.Common.{◌<◌, ◌∙◌, refl, length, arith, get_or}
use Rattle.std.proofs.lemmas.Option.{slice_get-get_or}
use Rattle.ocm_chain.specs.declared.reaches.Row.{Row}
use Rattle.ocm_chain.proofs.RightRows.{owns-settled, marks-settled, right-settled, right-behind, right-all}
use Rattle.ocm_chain.proofs.settling.settle.Goals as goal

pub loop-index-preserved : goal.loop-index-preserved
loop-index-preserved c =
    let rows = c.loop-index.rows in
    let index = c.loop-index.index in
    let within : index < length rows = omega arith in
    let row = get_or rows index c.index-rows-index.result in
    let at = slice_get-get_or rows index c.index-rows-index.result within in
    let next : Row = record { own = row.own; reach = c.reach_in-reach.result; is_parent = row.is_parent } in
    record {
      owns = owns-settled rows index row next at refl ∙ c.loop-index.invariant.owns;
      marks = marks-settled rows index row next at refl ∙ c.loop-index.invariant.marks;
      right = right-settled rows index row next at refl c.reach_in-reach.ensures c.loop-index.invariant.right;
      behind = right-behind rows index c.args.to row next at refl c.loop-index-test.true c.loop-index.invariant.behind;
    }

pub returns-clause-right : goal.returns-clause-right
returns-clause-right c = right-all c.loop-index.rows c.args.to (λ j found low there. c.loop-index.invariant.right j found (omega (arith, low, c.loop-index-test.false)) there) c.loop-index.invariant.behind
