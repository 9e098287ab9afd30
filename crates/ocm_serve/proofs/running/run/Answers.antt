use Rattle.std.proofs.Common.{◌∙◌, inr, sym, subst}
use Rattle.ocm_serve_system.specs.Openings.{IsOpenedWith}
use Rattle.ocm_serve.proofs.running.run.Goals as goal

pub returns-clause-ran : goal.returns-clause-ran
returns-clause-ran g c =
    let opened = subst (IsOpenedWith _ c.args.holds.bytes) (sym (c.new-2.ensures ∙ c.into_disk-disk.ensures.disk)) c.in-Ok.ensures in
    inr (c.run_over.ensures.ran c.args.holds.bytes (record { held = opened.held; faithful = opened.faithful; settled = opened.settled; unfailed = opened.unfailed }))
