use Rattle.ocm_law_posts.proofs.Answers.{answers-told}
use Rattle.ocm_law_posts.proofs.laws.answers_are_told.Goals as goal

pub returns : goal.returns
returns c = answers-told
