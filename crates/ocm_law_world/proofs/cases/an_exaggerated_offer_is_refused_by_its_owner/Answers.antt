use Rattle.std.proofs.Common.{[], ◌∷◌, ◌++◌}
use Rattle.ocm_entry.specs.declared.refusals.Why.TheVariants.{NotPermitted}
use Rattle.ocm_entry.specs.declared.replies.Reply.TheVariants.{Done}
use Rattle.ocm_rules.specs.Answers.{refused}
use Rattle.ocm_law_world.specs.World.{empty}
use Rattle.ocm_law_world.specs.World.Run.{Stays}
use Rattle.ocm_law_world.specs.Stories.{Return}
use Rattle.ocm_law_world.specs.Cases.{acceptance_told, exaggerated}
use Rattle.ocm_law_world.proofs.Telling.{story-run}
use Rattle.ocm_law_world.proofs.Worked.{exaggerated-story}
use Rattle.ocm_law_world.proofs.cases.an_exaggerated_offer_is_refused_by_its_owner.Goals as goal

pub returns-clause-run : goal.returns-clause-run
returns-clause-run c = story-run empty (exaggerated ++ acceptance_told (refused NotPermitted) ∷ Return Done ∷ []) Stays exaggerated-story
