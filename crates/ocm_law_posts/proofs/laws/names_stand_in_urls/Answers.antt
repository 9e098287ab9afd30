use Rattle.ocm_law_posts.proofs.Names.{addresses-stand, plain-stands}
use Rattle.ocm_law_posts.proofs.laws.names_stand_in_urls.Goals as goal

pub returns-clause-plain : goal.returns-clause-plain
returns-clause-plain c = plain-stands

pub returns-clause-address : goal.returns-clause-address
returns-clause-address c = addresses-stand
