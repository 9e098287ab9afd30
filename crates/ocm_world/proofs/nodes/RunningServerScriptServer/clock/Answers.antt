use Rattle.ocm_world.proofs.nodes.RunningServerScriptServer.clock.Goals as goal

pub returns : goal.returns
returns c = λ server is. is.clock
