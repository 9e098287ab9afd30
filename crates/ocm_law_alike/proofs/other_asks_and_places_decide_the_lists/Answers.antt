use Rattle.ocm_law_alike.proofs.Rebuilt.{others-decide}
use Rattle.ocm_law_alike.proofs.other_asks_and_places_decide_the_lists.Goals as goal

pub returns : goal.returns
returns c = others-decide
