use Rattle.ocm_law_network.proofs.Backing.{delivery-posted, search-found}
use Rattle.ocm_law_network.proofs.working.deliveries_are_posts.Goals as goal

pub returns-clause-posts : goal.returns-clause-posts
returns-clause-posts c = delivery-posted

pub returns-clause-searches : goal.returns-clause-searches
returns-clause-searches c = search-found
