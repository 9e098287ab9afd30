use Rattle.std.proofs.lemmas.Result.{err_from_is_err_and}
use Rattle.ocm_pump.proofs.Runs.{stopped_early, delivered}
use Rattle.ocm_pump.proofs.deliveries.find_and_post.Goals as goal

pub returns-in_err-site-clause-exact : goal.returns-in_err-site-clause-exact
returns-in_err-site-clause-exact g c =
    let p = err_from_is_err_and c.from_residual.result c.from_residual.ensures.1 in
    rw (p.1, p.2) (stopped_early (g.N.Dial.exchanges c.args.dial.now) (g.N.Dial.exchanges c.discover.new.dial) c.args.message.now c.in_err-site.field-0.0 (rw c.deref.ensures at c.in_err-site.ensures.exact))

pub returns-clause-exact : goal.returns-clause-exact
returns-clause-exact g c =
    delivered (g.N.Dial.exchanges c.args.dial.now) (g.N.Dial.exchanges c.discover.new.dial) (g.N.Dial.exchanges c.post.new.dial) c.args.message.now c.in_ok-site.site c.post.result (rw c.deref.ensures at c.in_ok-site.ensures.exact) (rw c.deref-2.ensures at c.post.ensures.exact)
