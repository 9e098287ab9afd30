use Rattle.std.proofs.Common.{◌-◌, ◌<◌, ◌∙◌, length, get_or, arith}
use Rattle.std.proofs.lemmas.Option.{slice_get-get_or}
use Rattle.ocm_chain.specs.Reaches.{owns, AreRight}
use Rattle.ocm_chain.proofs.RightRows.{own-at, own-number, right-among}
use Rattle.ocm_chain.proofs.Alone.{reach-own}
use Rattle.ocm_chain.proofs.hypotheses.reach_alone.Goals as goal

pub reach_above-above-requires : goal.reach_above-above-requires
reach_above-above-requires c =
    let rows = c.args.rows.now in
    let within : c.args.id - 1 < length rows = omega (arith, c.requires.low, c.requires.high) in
    let row = get_or rows (c.args.id - 1) c.index-rows-id.result in
    let at = slice_get-get_or rows (c.args.id - 1) c.index-rows-id.result within in
    let before : AreRight rows (c.args.id - 1) = λ j found low there. c.requires.right j found (omega (arith, low, within)) there in
    right-among rows (c.args.id - 1) before (omega (arith, within)) row.own.share.parent (c.requires.lower (c.args.id - 1) row.own (own-at rows (c.args.id - 1) row at))

pub returns : goal.returns
returns c =
    let rows = c.args.rows.now in
    let within : c.args.id - 1 < length rows = omega (arith, c.requires.low, c.requires.high) in
    let row = get_or rows (c.args.id - 1) c.index-rows-id.result in
    let at = slice_get-get_or rows (c.args.id - 1) c.index-rows-id.result within in
    c.of.ensures ∙ rw c.reach_above-above.ensures (reach-own (owns rows) c.args.id row.own c.args.rights c.args.closed c.requires.lower (own-number rows c.args.id row c.requires.low at))
