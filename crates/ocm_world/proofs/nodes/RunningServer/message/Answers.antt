use Rattle.std.proofs.Common.{◌∙◌}
use Rattle.ocm_world.proofs.Loading.{message-same}
use Rattle.ocm_world.proofs.nodes.RunningServer.message.Goals as goal

pub returns : goal.returns
returns c = λ server is. c.message.ensures is.opened server.calls is.stands ∙ message-same c.args.self.now server c.args.number is
