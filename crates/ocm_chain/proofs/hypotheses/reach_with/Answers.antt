use Rattle.std.proofs.Common.{◌≡◌, suc, length, get_or, refl, sym, ◌∙◌, arith, true, false}
use Rattle.std.specs.Prelude.{nat_eq}
use Rattle.std.proofs.lemmas.Bool.{eq-eqb, ne_eqb}
use Rattle.std.proofs.lemmas.Option.{slice_get-get_or}
use Rattle.ocm_chain.specs.Reaches.{owns}
use Rattle.ocm_chain.specs.Hypotheses.{with_own, AreReaches}
use Rattle.ocm_chain.proofs.RightRows.{own-at}
use Rattle.ocm_chain.proofs.Hypothesis.{reach-with}
use Rattle.ocm_chain.proofs.hypotheses.reach_with.Goals as goal

pub above_among-above-requires : goal.above_among-above-requires
above_among-above-requires c =
    let rows = c.args.rows.now in
    let row = get_or rows c.args.index c.index-rows-index.result in
    let at = slice_get-get_or rows c.args.index c.index-rows-index.result c.requires.within in
    rw c.requires.before.0 (c.requires.lower c.args.index row.own (own-at rows c.args.index row at))

pub returns-then-index-id : goal.returns-then-index-id
returns-then-index-id c =
    let rows = c.args.rows.now in
    let row = get_or rows c.args.index c.index-rows-index.result in
    let at = slice_get-get_or rows c.args.index c.index-rows-index.result c.requires.within in
    let shares = with_own (owns rows) c.args.id c.args.rights c.args.closed in
    let before : AreReaches shares c.args.reaches.now (length c.args.reaches.now) = (refl, c.requires.before.1) in
    let above = c.above_among-above.ensures shares before in
    let here : nat_eq c.args.id (suc c.args.index) ≡ true = eq-eqb c.args.id (suc c.args.index) (omega arith) in
    c.of.ensures ∙ rw above (sym (rw here at (reach-with (owns rows) c.args.id c.args.rights c.args.closed c.args.index row.own (own-at rows c.args.index row at) (c.requires.lower c.args.index row.own (own-at rows c.args.index row at)))))

pub returns : goal.returns
returns c =
    let rows = c.args.rows.now in
    let row = get_or rows c.args.index c.index-rows-index.result in
    let at = slice_get-get_or rows c.args.index c.index-rows-index.result c.requires.within in
    let shares = with_own (owns rows) c.args.id c.args.rights c.args.closed in
    let before : AreReaches shares c.args.reaches.now (length c.args.reaches.now) = (refl, c.requires.before.1) in
    let above = c.above_among-above.ensures shares before in
    let other : nat_eq c.args.id (suc c.args.index) ≡ false = ne_eqb c.args.id (suc c.args.index) (λ e. absurd (omega (arith, e))) in
    c.of-2.ensures ∙ rw (c.rights.ensures.value, above) (sym (rw other at (reach-with (owns rows) c.args.id c.args.rights c.args.closed c.args.index row.own (own-at rows c.args.index row at) (c.requires.lower c.args.index row.own (own-at rows c.args.index row at)))))
