use Rattle.std.proofs.Common.{◌∙◌}
use Rattle.ocm_world.proofs.Loading.{count-of}
use Rattle.ocm_world.proofs.nodes.RunningServer.kept.Goals as goal

pub returns : goal.returns
returns c = λ server is. c.kept.ensures is.opened server.calls is.stands ∙ count-of c.args.self.now server is
