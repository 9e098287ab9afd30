use Rattle.ocm_davclient.proofs.Calls.{asked_bodyless}
use Rattle.ocm_davclient.proofs.clients.Client.ask_bodyless.Goals as goal

pub returns-clause-exact : goal.returns-clause-exact
returns-clause-exact g c =
    asked_bodyless (g.N.Dial.exchanges c.args.dial.now) (g.N.Dial.exchanges c.ask.new.dial) c.args.self.now c.args.method.now c.args.path.now c.new-nothing.result c.ask.result c.new-nothing.ensures c.ask.ensures.exact
