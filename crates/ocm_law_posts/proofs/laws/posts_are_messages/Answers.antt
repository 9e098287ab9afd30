use Rattle.ocm_law_posts.proofs.Messages.{post-message}
use Rattle.ocm_law_posts.proofs.laws.posts_are_messages.Goals as goal

pub returns : goal.returns
returns c = post-message
