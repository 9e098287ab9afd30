use Rattle.std.proofs.Common.{◌∙◌}
use Rattle.ocm_world.proofs.Loading.{count-of, moment-of}
use Rattle.ocm_world.proofs.nodes.RunningServer.state.Goals as goal

pub returns : goal.returns
returns c = λ server is.
    let kept = c.kept.ensures is.opened server.calls is.stands ∙ count-of c.args.self.now server is in
    let moment = c.moment.ensures is.opened server.calls is.stands ∙ moment-of c.args.self.now server is in
    (λ i. (kept i, moment i))
