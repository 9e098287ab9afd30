use Rattle.std.proofs.Common.{suc, Some, ap, ◌∙◌, get_or}
use Rattle.std.proofs.lemmas.Option.{slice_get-get_or}
use Rattle.ocm_chain.proofs.RightRows.{mark-at}
use Rattle.ocm_chain.proofs.settling.touched_to.Goals as goal

pub returns-clause-apart : goal.returns-clause-apart
returns-clause-apart c low =
    let rows = c.args.rows.now in
    let row = get_or rows c.args.index c.index-rows-index.result in
    let at = slice_get-get_or rows c.args.index c.index-rows-index.result c.requires.within in
    c.requires.marks (suc c.args.index) (mark-at rows c.args.index row at ∙ ap (λ b. Some b) c.if-rows-index.false)
