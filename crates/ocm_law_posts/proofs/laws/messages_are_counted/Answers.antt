use Rattle.ocm_law_posts.proofs.Counted.{sent-counted}
use Rattle.ocm_law_posts.proofs.laws.messages_are_counted.Goals as goal

pub returns : goal.returns
returns c = sent-counted
