use Rattle.std.proofs.Common.{[], ◌∷◌, ◌++◌}
use Rattle.ocm_entry.specs.declared.refusals.Why.TheVariants.{UnknownShare}
use Rattle.ocm_entry.specs.declared.replies.Reply.TheVariants.{Done}
use Rattle.ocm_rules.specs.Answers.{refused}
use Rattle.ocm_law_world.specs.World.{empty}
use Rattle.ocm_law_world.specs.World.Run.{Stays}
use Rattle.ocm_law_world.specs.Stories.{Return}
use Rattle.ocm_law_world.specs.Cases.{acceptance_told, forged}
use Rattle.ocm_law_world.proofs.Telling.{story-run}
use Rattle.ocm_law_world.proofs.Worked.{forged-story}
use Rattle.ocm_law_world.proofs.cases.a_forged_offer_is_refused_by_its_owner.Goals as goal

pub returns-clause-run : goal.returns-clause-run
returns-clause-run c = story-run empty (forged ++ acceptance_told (refused UnknownShare) ∷ Return Done ∷ []) Stays forged-story
