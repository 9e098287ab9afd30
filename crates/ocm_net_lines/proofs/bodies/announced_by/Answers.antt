use Rattle.std.proofs.Common.{◌≡◌, ◌-◌, ◌==◌, length, drop, take, sym, ap, ◌∙◌, refl}
use Rattle.std.proofs.lemmas.List.{take_rest}
use Rattle.ocm_http_heads.specs.Endings.{found, of_head}
use Rattle.ocm_net_lines.proofs.Ends.{lies, announces_whole}
use Rattle.ocm_net_lines.proofs.bodies.announced_by.Goals as goal

pub slice_bounds-text-count : goal.slice_bounds-text-count
slice_bounds-text-count c = rw (c.skipped.ensures, c.size.ensures) ((lies (found of_head c.args.bytes.now) c.args.bytes.now c.args.head.now refl c.requires).skips)

pub slice_bounds-text-start : goal.slice_bounds-text-start
slice_bounds-text-start c = rw (c.skipped.ensures, c.size.ensures) ((lies (found of_head c.args.bytes.now) c.args.bytes.now c.args.head.now refl c.requires).skips)

pub returns : goal.returns
returns c =
    let h = c.args.head.now in
    let bytes = c.args.bytes.now in
    let whole = take c.size.result bytes in
    let text : take (length whole - c.skipped.result) (drop c.skipped.result whole) ≡ drop h.skipped (take h.size bytes) = take_rest whole c.skipped.result ∙ rw (c.skipped.ensures, c.size.ensures) refl in
    let all : (length whole == length bytes) ≡ (length (take h.size bytes) == length bytes) = ap (λ n. length (take n bytes) == length bytes) c.size.ensures in
    let told = announces_whole (found of_head bytes) bytes h c.in-Request.method c.in-Request.target c.in-Request.closing c.in-Request.fields (take (length whole - c.skipped.result) (drop c.skipped.result whole)) (length whole == length bytes)
    refl c.requires (sym c.head.ensures ∙ c.in-Request.is) text all in
    rw (c.is_awaited-is_awaited.ensures, c.as_slice.ensures, c.body-length.ensures) told
