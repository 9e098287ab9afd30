use Rattle.ocm_law_posts.proofs.Written.{letter-back}
use Rattle.ocm_law_posts.proofs.laws.letters_are_read_back.Goals as goal

pub returns : goal.returns
returns c = letter-back
