use Rattle.std.proofs.Common.{◌∙◌, arith, get_or}
use Rattle.std.proofs.lemmas.Option.{slice_get-get_or}
use Rattle.ocm_chain.proofs.RightRows.{own-at, right-among, right-row}
use Rattle.ocm_chain.proofs.settling.reach_in.Goals as goal

pub reach_above-above-requires : goal.reach_above-above-requires
reach_above-above-requires c =
    let rows = c.args.rows.now in
    let row = get_or rows c.args.index c.index-rows-index.result in
    let at = slice_get-get_or rows c.args.index c.index-rows-index.result c.requires.within in
    right-among rows c.args.index c.requires.right (omega (arith, c.requires.within)) row.own.share.parent (c.requires.lower c.args.index row.own (own-at rows c.args.index row at))

pub returns : goal.returns
returns c =
    let rows = c.args.rows.now in
    let row = get_or rows c.args.index c.index-rows-index.result in
    let at = slice_get-get_or rows c.args.index c.index-rows-index.result c.requires.within in
    c.of.ensures ∙ rw (c.rights.ensures.value, c.reach_above-above.ensures) (right-row rows c.args.index row at c.requires.lower)
