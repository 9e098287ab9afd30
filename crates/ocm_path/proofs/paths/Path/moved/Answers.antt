use Rattle.std.proofs.Common.{rules, ◌≡◌, ◌++◌, length, drop, ap, ◌∙◌}
use Rattle.ocm_path.specs.Paths.{is_path}
use Rattle.ocm_path.proofs.Joining.{is_path-moved}
use Rattle.ocm_path.proofs.paths.Path.moved.Goals as goal

pub invariant_of-result : goal.invariant_of-result
invariant_of-result c =
    let is : c.add_copies.new.segments ≡ c.to.inside.segments ++ drop (length c.from.inside.segments) c.self.inside.segments = search rules in
    ap is_path is ∙ is_path-moved c.to.inside.segments c.self.inside.segments (length c.from.inside.segments) c.to.invariant c.self.invariant (rw (← c.to.view_is, ← c.from.view_is, ← c.self.view_is) at c.requires.within)
