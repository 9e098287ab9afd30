use Rattle.ocm_law_posts.proofs.Replying.{replies-answer}
use Rattle.ocm_law_posts.proofs.laws.replies_may_answer.Goals as goal

pub returns : goal.returns
returns c = replies-answer
