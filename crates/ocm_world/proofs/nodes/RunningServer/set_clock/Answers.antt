use Rattle.ocm_world.proofs.Loading.{clocked-of}
use Rattle.ocm_world.proofs.nodes.RunningServer.set_clock.Goals as goal

pub returns : goal.returns
returns c = λ server is. clocked-of c.args.self.now server c.args.clock is
