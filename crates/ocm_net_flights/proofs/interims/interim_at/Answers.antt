use Rattle.std.proofs.Common.{◌<◌, ◌≤◌, ℕ, Bool, true, false, Option, IfSome, length, sym, ap, ◌∙◌, subst}
use Rattle.std.specs.Bool.{then_some}
use Rattle.std.proofs.lemmas.List.{length-take-le}
use Rattle.ocm_http_heads.specs.Endings.{found}
use Rattle.ocm_net_flights.proofs.Ends.{ends_within, ends_inside}
use Rattle.ocm_net_flights.proofs.interims.interim_at.Goals as goal

pub slice_bounds-head-end : goal.slice_bounds-head-end
slice_bounds-head-end c =
    let whole = sym (c.in-Whole.ensures.found ∙ ap (λ look. found look c.args.bytes.now) c.of_head-look.ensures) in
    sym (length-take-le c.in-Whole.len c.args.bytes.now (ends_within c.args.bytes.now c.in-Whole.len whole))

chosen : (b : Bool) (n size : ℕ) → (0 < n) × (n ≤ size) → IfSome (then_some b n) (λ k. (0 < k) × (k ≤ size))
chosen true n size inside = inside
chosen false n size inside = tt

pub returns-in-Whole-clause-within : goal.returns-in-Whole-clause-within
returns-in-Whole-clause-within c =
    let whole = sym (c.in-Whole.ensures.found ∙ ap (λ look. found look c.args.bytes.now) c.of_head-look.ensures) in
    let P : Option ℕ → Type 0 = λ found. IfSome found (λ k. (0 < k) × (k ≤ length c.args.bytes.now)) in
    subst P (sym c.then_some.ensures) (chosen c.is_interim.result c.in-Whole.len (length c.args.bytes.now) (ends_inside c.args.bytes.now c.in-Whole.len whole))
