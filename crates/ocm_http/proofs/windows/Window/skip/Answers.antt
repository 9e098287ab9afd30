use Rattle.std.proofs.Common.{◌-◌, ◌≤◌, length, drop, subst, sym, ap, ◌∙◌}
use Rattle.ocm_http.proofs.UnderWay.{skipped, window_size}
use Rattle.ocm_http.proofs.windows.Window.skip.Goals as goal

pub returns : goal.returns
returns c =
    let size = window_size c.self.inside.bytes.items c.self.inside.from c.self.inside.to c.self.invariant.0 c.self.invariant.1 in
    let within : c.args.n ≤ c.self.inside.to - c.self.inside.from = subst (λ k. c.args.n ≤ k) (ap length (sym c.self.view_is) ∙ size) c.requires in
    skipped c.self.inside.bytes.items c.self.inside.from c.self.inside.to c.args.n within ∙ ap (drop c.args.n) c.self.view_is
