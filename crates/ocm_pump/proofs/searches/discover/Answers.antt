use Rattle.std.proofs.lemmas.Result.{err_from_is_err_and}
use Rattle.ocm_pump.proofs.Runs.{found_first, stopped_first, went_on}
use Rattle.ocm_pump.proofs.searches.discover.Goals as goal

pub returns-in_err-first-clause-exact : goal.returns-in_err-first-clause-exact
returns-in_err-first-clause-exact g c =
    let p = err_from_is_err_and c.from_residual.result c.from_residual.ensures.1 in
    rw (p.1, p.2) (stopped_first (g.N.Dial.exchanges c.args.dial.now) (g.N.Dial.exchanges c.ask.new.dial) c.args.host.now c.in_err-first.field-0.0 c.in_err-first.ensures.exact)

pub returns-in-Some-clause-exact : goal.returns-in-Some-clause-exact
returns-in-Some-clause-exact g c =
    found_first (g.N.Dial.exchanges c.args.dial.now) (g.N.Dial.exchanges c.ask.new.dial) c.args.host.now c.in_ok-first.first c.in-Some.site c.in-Some.is c.in_ok-first.ensures.exact

pub returns-in-None-clause-exact : goal.returns-in-None-clause-exact
returns-in-None-clause-exact g c =
    went_on (g.N.Dial.exchanges c.args.dial.now) (g.N.Dial.exchanges c.ask.new.dial) (g.N.Dial.exchanges c.ask_last.new.dial) c.args.host.now c.in_ok-first.first c.ask_last.result c.in-None.is c.in_ok-first.ensures.exact c.ask_last.ensures.exact
