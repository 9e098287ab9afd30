use Rattle.std.proofs.Common.{take, sym, ap, ◌∙◌}
use Rattle.std.proofs.lemmas.List.{length-take-le, take_rest}
use Rattle.ocm_http_heads.specs.Endings.{found}
use Rattle.ocm_net_flights.proofs.Ends.{ends_within, few_lines}
use Rattle.ocm_net_flights.proofs.replies.length_at.Goals as goal

pub slice_bounds-head-end : goal.slice_bounds-head-end
slice_bounds-head-end c =
    let whole = sym (c.in-Whole.ensures.found ∙ ap (λ look. found look c.args.bytes.now) c.of_head-search.ensures) in
    sym (length-take-le c.in-Whole.len c.args.bytes.now (ends_within c.args.bytes.now c.in-Whole.len whole))

pub read_reply-requires : goal.read_reply-requires
read_reply-requires c =
    let whole = sym (c.in-Whole.ensures.found ∙ ap (λ look. found look c.args.bytes.now) c.of_head-search.ensures) in
    rw (take_rest (take c.in-Whole.len c.args.bytes.now) c.blanks.result) (few_lines c.args.bytes.now c.in-Whole.len c.blanks.result whole)
