use Rattle.ocm_law_origins.proofs.Histories.{origins-put}
use Rattle.ocm_law_origins.proofs.Bodies.{origins-at_their_places}
use Rattle.ocm_law_origins.proofs.origins_tell_what_was_put.Goals as goal

pub returns-clause-node_by_node : goal.returns-clause-node_by_node
returns-clause-node_by_node c = origins-put

pub returns-clause-at_its_place : goal.returns-clause-at_its_place
returns-clause-at_its_place c = origins-at_their_places
