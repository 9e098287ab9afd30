use Rattle.ocm_store.proofs.Opens.{areas-same, images-alike, loaded-area}
use Rattle.ocm_store.proofs.laws.an_image_has_one_area.Goals as goal

pub returns-clause-area : goal.returns-clause-area
returns-clause-area c = areas-same

pub returns-clause-list : goal.returns-clause-list
returns-clause-list c = images-alike

pub returns-clause-loaded : goal.returns-clause-loaded
returns-clause-loaded c = loaded-area
