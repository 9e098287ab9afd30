use Rattle.ocm_world.proofs.Loading.{fused-of}
use Rattle.ocm_world.proofs.nodes.RunningServer.fuse.Goals as goal

pub returns : goal.returns
returns c = λ server is. fused-of c.args.self.now server c.fuse.new.self c.args.calls is c.fuse.ensures.disk c.fuse.ensures.terms c.fuse.ensures.stands c.fuse.ensures.live
