use Rattle.ocm_script_run.specs.Servers.{Server, step_at}
use Rattle.ocm_script_run.proofs.Lines.{if_ok}
use Rattle.ocm_script_run.proofs.runs.tell_time.Goals as goal

pub returns : goal.returns
returns g c = if_ok c.run_ask.result (λ text h world are. h (step_at (λ (s : Server). record s { clock = c.args.clock }) world c.args.host.now) (c.set_clock.ensures world are)) c.run_ask.ensures
