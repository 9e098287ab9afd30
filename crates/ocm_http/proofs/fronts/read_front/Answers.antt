use Rattle.std.proofs.Common.{sym, ap, ◌∙◌}
use Rattle.std.proofs.lemmas.List.{length-take-le}
use Rattle.ocm_http_heads.specs.Endings.{found}
use Rattle.ocm_http.proofs.ReadHeads.{front_ends, end_inside}
use Rattle.ocm_http.proofs.fronts.read_front.Goals as goal

pub slice_bounds-read_whole-end : goal.slice_bounds-read_whole-end
slice_bounds-read_whole-end c =
    let whole = sym (c.in-Whole.ensures.found ∙ ap (λ look. found look c.args.bytes.now) c.of_head-look.ensures) in
    sym (length-take-le c.in-Whole.size c.args.bytes.now (end_inside c.args.bytes.now c.in-Whole.size whole))

pub read_whole-requires : goal.read_whole-requires
read_whole-requires c =
    front_ends c.args.bytes.now c.in-Whole.size (sym (c.in-Whole.ensures.found ∙ ap (λ look. found look c.args.bytes.now) c.of_head-look.ensures))
