use Rattle.std.proofs.Common.{◌≡◌, arith, ap, length}
use Rattle.ocm_path.specs.Paths.{Segments, joined, path_text}
use Rattle.ocm_path.proofs.Joining.{length-path_text, path_text-bounded}
use Rattle.ocm_path.proofs.paths.Path.text_len.Goals as goal

pub returns : goal.returns
returns c =
    let bounded = path_text-bounded c.self.inside.segments c.self.invariant in
    let lengths = length-path_text c.self.inside.segments in
    let slice : length (joined c.as_slice.result.now) ≡ length (joined c.self.inside.segments) = ap (λ (p : Segments). length (joined p)) c.as_slice.ensures in
    let value : length (path_text c.self.inside.segments) ≡ length (path_text c.args.self.now) = ap (λ (p : Segments). length (path_text p)) c.self.view_is in
    omega arith
