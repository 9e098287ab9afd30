use Rattle.ocm_script_run.specs.Servers.{server_at}
use Rattle.ocm_script_run.proofs.Worlds.{kept-none, kept-there}
use Rattle.ocm_script_run.proofs.drills.kept.Goals as goal

pub returns-in-Some : goal.returns-in-Some
returns-in-Some g c = λ world are. kept-there (server_at world c.args.host.now) c.in-Some.state (c.in-Some.ensures world are)

pub returns-in-None : goal.returns-in-None
returns-in-None g c = λ world are. kept-none (server_at world c.args.host.now) (c.in-None.ensures world are)
