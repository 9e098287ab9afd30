use Rattle.ocm_net_adapters.proofs.Exchanging.{adds_some}
use Rattle.ocm_net_adapters.proofs.posts.TcpPostPost.deliver.Goals as goal

pub returns-in-Some-deliver-clause-came : goal.returns-in-Some-deliver-clause-came
returns-in-Some-deliver-clause-came g c =
    let given = c.in-Some-deliver.field-0 in
    adds_some c.args.self.now.told c.push.new.self c.args.message.now given.exchanges given.answer c.push.ensures c.in-Some-deliver.ensures
