use Rattle.ocm_commands_dav.proofs.Steps.{searched, worked}
use Rattle.ocm_commands_dav.proofs.calls.work.Goals as goal

pub returns-in-Ok-clause-exact : goal.returns-in-Ok-clause-exact
returns-in-Ok-clause-exact g c =
    worked (g.N.Dial.exchanges c.args.dial.now) (g.N.Dial.exchanges c.discover.new.dial) (g.N.Dial.exchanges c.call.new.dial) c.args.task c.args.body.now c.discover.result c.in-Ok.client c.call.result c.in-Ok.is c.discover.ensures.exact c.call.ensures.exact

pub returns-clause-exact : goal.returns-clause-exact
returns-clause-exact g c =
    searched (g.N.Dial.exchanges c.args.dial.now) (g.N.Dial.exchanges c.discover.new.dial) c.args.task c.args.body.now c.discover.result c.in-Err.fault c.in-Err.is c.discover.ensures.exact
