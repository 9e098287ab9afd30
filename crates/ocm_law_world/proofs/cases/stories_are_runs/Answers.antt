use Rattle.ocm_law_world.proofs.Telling.{story-run}
use Rattle.ocm_law_world.proofs.cases.stories_are_runs.Goals as goal

pub returns : goal.returns
returns c = story-run
