use Rattle.ocm_law_runs.proofs.Cutting.{told-line}
use Rattle.ocm_law_runs.proofs.scripts.a_line_prints_a_reply_of_the_session.Goals as goal

pub returns : goal.returns
returns c = λ servers number host server e ask line there at is ran.
    let told = told-line servers number host server e ask line there at is ran in
    (told.reply, told.allowed, told.prints, told.after)
