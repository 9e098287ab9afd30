use Rattle.ocm_davclient.proofs.Calls.{asked}
use Rattle.ocm_davclient.proofs.clients.Client.ask.Goals as goal

pub returns-clause-exact : goal.returns-clause-exact
returns-clause-exact g c =
    asked (g.N.Dial.exchanges c.args.dial.now) (g.N.Dial.exchanges c.send.new.dial) c.args.self.now (record { site = c.self.inside.site; secret = c.self.inside.secret }) c.args.method.now c.args.path.now c.args.body.now c.in_ok-request.request c.send.result c.self.view_is c.in_ok-request.ensures c.send.ensures.exact
