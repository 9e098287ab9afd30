use Rattle.std.proofs.Common.{◌≡◌, ◌∙◌, ◌&&◌, false, sym, ap}
use Rattle.std.specs.Prelude.{nat_le}
use Rattle.ocm_tree.specs.Trails.{place_trail}
use Rattle.ocm_tree.proofs.Spans.{outside-beside}
use Rattle.ocm_tree.proofs.branches.Branch.is_beside.Goals as goal

pub returns-else-has : goal.returns-else-has
returns-else-has c =
    let span = c.self.inside.beside in
    let node = c.args.kept.now in
    let missed : (nat_le span.least (place_trail node.place) && nat_le (place_trail node.place) span.most) ≡ false =
    ap (λ t. nat_le span.least t && nat_le t span.most) (sym c.trail.ensures) ∙ (sym c.has.ensures ∙ c.if-has.false) in
    rw (← c.self.view_is) (c.if-has.false ∙ outside-beside span c.self.inside.place.now node.place c.self.invariant.1 missed)
