use Rattle.ocm_script_run.proofs.Lines.{Runs-still, if_ok}
use Rattle.ocm_script_run.proofs.runs.name.Goals as goal

pub returns : goal.returns
returns g c = if_ok c.line_text.result (λ text e world are. rw e (Runs-still g.S.ScriptServers.stand c.add.new.self _ _ (c.in_ok-add.ensures world are))) c.line_text.ensures
