use Rattle.std.proofs.Common.{[], ◌∷◌, ◌++◌}
use Rattle.ocm_entry.specs.declared.replies.Reply.TheVariants.{Done, Noticed}
use Rattle.ocm_rules.specs.Cases.{host_of_bob, our_host}
use Rattle.ocm_law_world.specs.World.{empty}
use Rattle.ocm_law_world.specs.World.Run.{Stays}
use Rattle.ocm_law_world.specs.Stories.{Crash, Return}
use Rattle.ocm_law_world.specs.Cases.{acceptance_told, accepted}
use Rattle.ocm_law_world.proofs.Telling.{story-run}
use Rattle.ocm_law_world.proofs.Worked.{crashed-story}
use Rattle.ocm_law_world.proofs.cases.an_answer_may_come_after_crashes.Goals as goal

pub returns-clause-run : goal.returns-clause-run
returns-clause-run c = story-run empty (accepted ++ acceptance_told Noticed ∷ Crash host_of_bob ∷ Crash our_host ∷ Return Done ∷ []) Stays crashed-story
