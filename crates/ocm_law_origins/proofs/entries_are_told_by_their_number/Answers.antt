use Rattle.ocm_law_origins.proofs.Histories.{put-at}
use Rattle.ocm_law_origins.proofs.Bodies.{body-put_by_entry}
use Rattle.ocm_law_origins.proofs.entries_are_told_by_their_number.Goals as goal

pub returns-clause-put : goal.returns-clause-put
returns-clause-put c = put-at

pub returns-clause-body : goal.returns-clause-body
returns-clause-body c = body-put_by_entry
