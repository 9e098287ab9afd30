use Rattle.ocm_pump.proofs.Runs.{asked_last}
use Rattle.ocm_pump.proofs.searches.ask_last.Goals as goal

pub returns-clause-exact : goal.returns-clause-exact
returns-clause-exact g c =
    asked_last (g.N.Dial.exchanges c.args.dial.now) (g.N.Dial.exchanges c.ask-found.new.dial) c.args.host.now c.ask-found.result c.found_at_last.result c.ask-found.ensures.exact c.found_at_last.ensures
