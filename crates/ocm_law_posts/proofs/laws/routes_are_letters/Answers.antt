use Rattle.ocm_law_posts.proofs.Routes.{letter-asked}
use Rattle.ocm_law_posts.proofs.laws.routes_are_letters.Goals as goal

pub returns : goal.returns
returns c = letter-asked
