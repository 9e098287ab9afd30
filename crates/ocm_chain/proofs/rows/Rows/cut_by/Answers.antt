use Rattle.std.proofs.Common.{◌≡◌, ℕ, List, [], ◌∷◌, length, ap, subst, ◌∙◌}
use Rattle.std.specs.Prelude.{IfOk, filter, if◌then◌else◌}
use Rattle.std.specs.List.{range_with_len}
use Rattle.ocm_chain.specs.Hypotheses.{is_cut_among, reaches_of}
use Rattle.ocm_chain.specs.Lists.{cut_by}
use Rattle.ocm_chain.specs.Reaches.{owns, reach_goes_on}
use Rattle.ocm_chain.proofs.Hypothesis.{cut-is}
use Rattle.ocm_chain.proofs.Alone.{cut-alone}
use Rattle.ocm_chain.proofs.rows.Rows.cut_by.Goals as goal

pub returns-then-not-row-clause-cut : goal.returns-then-not-row-clause-cut
returns-then-not-row-clause-cut g c =
    let rows = c.self.inside.rows.items in
    let own = rw (← c.self.view_is) at c.at-row.ensures.own in
    let reach = rw (← c.self.view_is) at c.at-row.ensures.reach in
    let childless = rw (← c.self.view_is) at (c.at-row.ensures.childless c.if-not-row.true) in
    let taken = cut-alone c.args.moment (owns rows) c.args.id c.at-row.result.now.own c.self.invariant.lower childless own in
    let P : List ℕ → Type 0 = λ ns. IfOk c.cut_alone.result (λ list. list ≡ ns) in
    rw (← c.self.view_is) (subst P (ap (λ r. if reach_goes_on c.args.moment r then c.args.id ∷ [] else []) reach ∙ taken) c.cut_alone.ensures)

pub returns-clause-cut : goal.returns-clause-cut
returns-clause-cut g c =
    let rows = c.self.inside.rows.items in
    let there = rw (← c.self.view_is) at c.at-row.ensures.own in
    let after = rw c.deref.ensures.value at c.in_ok-after.ensures in
    let told : filter (is_cut_among c.args.moment (reaches_of c.deref-2.result.now) c.deref-3.result.now) (range_with_len 1 (length c.deref-2.result.now)) ≡ cut_by c.args.moment (owns rows) c.args.id =
    rw (c.deref-2.ensures.value, c.deref-3.ensures.value) (cut-is c.args.moment rows c.in_ok-after.after.items c.args.id c.at-row.result.now.own c.rights-rights.result c.self.invariant.right there after) in
    let P : List ℕ → Type 0 = λ ns. IfOk c.cut_among.result (λ list. list ≡ ns) in
    rw (← c.self.view_is) (subst P told c.cut_among.ensures)
