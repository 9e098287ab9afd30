use Rattle.ocm_script_run.proofs.Drilling.{texts-transcript}
use Rattle.ocm_script_run.proofs.laws.texts_are_a_transcript.Goals as goal

pub returns : goal.returns
returns c = λ world final n es texts h. texts-transcript world final n es texts h
