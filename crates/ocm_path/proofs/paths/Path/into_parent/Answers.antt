use Rattle.std.proofs.Common.{rules, ◌-◌, length, ◌≡◌, ap, ◌∙◌, take}
use Rattle.ocm_path.specs.Paths.{is_path}
use Rattle.ocm_path.proofs.Joining.{is_path-take}
use Rattle.ocm_path.proofs.paths.Path.into_parent.Goals as goal

pub invariant_of-result : goal.invariant_of-result
invariant_of-result c =
    let all = c.self.inside.segments in
    let is : c.from_vec.result ≡ take (length all - 1) all = search rules in
    ap is_path is ∙ is_path-take all (length all - 1) c.self.invariant
