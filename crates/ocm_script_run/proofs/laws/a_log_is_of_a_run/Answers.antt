use Rattle.ocm_script_run.proofs.Hosts.{logged-run}
use Rattle.ocm_script_run.proofs.laws.a_log_is_of_a_run.Goals as goal

pub returns : goal.returns
returns c = λ world final n host es log h. logged-run world final n host es log h
