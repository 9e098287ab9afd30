use Rattle.std.proofs.Common.{rules, ◌-◌, ◌≤◌, length, ◌≡◌, sym, ap, subst, ◌∙◌, take}
use Rattle.ocm_path.specs.Paths.{Segments, is_path, path_text}
use Rattle.ocm_path.proofs.Joining.{is_path-take, length-path_text-take}
use Rattle.ocm_path.proofs.paths.Path.parent.Goals as goal

pub invariant_of-result : goal.invariant_of-result
invariant_of-result c =
    let all = c.self.inside.segments in
    let is : c.add_copies.new.segments ≡ take (length all - 1) all = search rules in
    ap is_path is ∙ is_path-take all (length all - 1) c.self.invariant

pub returns-clause-no_longer : goal.returns-clause-no_longer
returns-clause-no_longer c =
    let all = c.args.self.now in
    let is : c.add_copies.new.segments ≡ take (length all - 1) all = search rules in
    let NoLonger : Segments → Type 0 = λ path. length (path_text path) ≤ length (path_text all) in
    subst NoLonger (sym is) (length-path_text-take all (length all - 1))
