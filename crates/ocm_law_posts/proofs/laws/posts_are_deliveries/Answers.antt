use Rattle.ocm_law_posts.proofs.Messages.{post-delivers}
use Rattle.ocm_law_posts.proofs.Sites.{posts-there}
use Rattle.ocm_law_posts.proofs.laws.posts_are_deliveries.Goals as goal

pub returns-clause-asked : goal.returns-clause-asked
returns-clause-asked c = post-delivers

pub returns-clause-there : goal.returns-clause-there
returns-clause-there c = posts-there
