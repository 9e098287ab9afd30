use Rattle.std.proofs.Common.{[], ◌∷◌, ◌++◌}
use Rattle.ocm_entry.specs.declared.replies.Reply.TheVariants.{Done, Noticed}
use Rattle.ocm_law_world.specs.World.{empty}
use Rattle.ocm_law_world.specs.World.Run.{Stays}
use Rattle.ocm_law_world.specs.Stories.{Return}
use Rattle.ocm_law_world.specs.Cases.{acceptance_told, accepted}
use Rattle.ocm_law_world.proofs.Telling.{story-run}
use Rattle.ocm_law_world.proofs.Worked.{lost-story}
use Rattle.ocm_law_world.proofs.cases.a_lost_answer_may_be_asked_for_again.Goals as goal

pub returns-clause-run : goal.returns-clause-run
returns-clause-run c = story-run empty (accepted ++ acceptance_told Noticed ∷ acceptance_told Noticed ∷ Return Done ∷ []) Stays lost-story
