use Rattle.ocm_law_traces.proofs.Joined.{traced-true}
use Rattle.ocm_law_traces.proofs.ScriptTexts.{script-sound}
use Rattle.ocm_law_traces.proofs.a_traced_log_is_true.Goals as goal

pub returns : goal.returns
returns c = λ bytes events host log image final shelf script run are shelved there.
    traced-true host image log events final shelf run (script-sound bytes events script) are shelved there
