use Rattle.std.proofs.Common.{◌≡◌, ◌+◌, ◌∙◌, ℕ, List, min, ap, sym, slice_index, arith}
use Rattle.std.proofs.lemmas.Grind.{get_or_default_zero}
use Rattle.ocm_drill.specs.Summary.{AreCounts}
use Rattle.ocm_drill.proofs.Counting.{counted}
use Rattle.ocm_drill.proofs.tallies.Tally.add.Goals as goal

pub returns-in-Some : goal.returns-in-Some
returns-in-Some c texts few are =
    let counts : List ℕ = c.self.inside.counts.items in
    let inside : AreCounts counts texts = rw c.self.view_is are in
    let one : c.index-count.result.now ≡ slice_index counts c.in-Some.status = c.index-count.ensures ∙ get_or_default_zero counts c.in-Some.status c.index-count.result.now (omega (arith, inside.size, c.in-Some.ensures.below)) in
    counted counts texts c.args.text.now c.in-Some.status c.saturating_add.result inside few c.in-Some.ensures.below (sym c.in-Some.ensures.value)
    (c.saturating_add.ensures ∙ ap (λ n. min (n + 1) 4294967295) one)
