use Rattle.ocm_script_run.proofs.Lines.{if_ok}
use Rattle.ocm_script_run.proofs.Logging.{LogsRead-nowhere, LogsRead-there}
use Rattle.ocm_script_run.proofs.traces.log_read.Goals as goal

pub returns-in_default : goal.returns-in_default
returns-in_default g c = λ world are. LogsRead-nowhere g.S.ScriptServers.stand world c.args.servers.now c.args.host.now c.args.method c.args.secret.now c.args.path.now c.new.result (c.in_default.ensures world are) are c.new.ensures

pub returns : goal.returns
returns g c = if_ok c.log_text.result
    (λ log is world are.
    let asked = c.status_at-status.ensures.told world are in
    LogsRead-there g.S.ScriptServers.stand world c.status_at-status.new.servers c.args.host.now c.args.method c.args.secret.now c.args.path.now c.in-Some.state c.in_ok-ask.ask asked.0 c.status_at-status.result log
    (c.in-Some.ensures world are) c.in_ok-ask.ensures asked.1 asked.2 is)
    c.log_text.ensures
