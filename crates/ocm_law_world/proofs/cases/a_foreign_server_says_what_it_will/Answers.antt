use Rattle.std.proofs.Common.{refl}
use Rattle.ocm_rules.specs.Cases.{offer_to_bob}
use Rattle.ocm_law_world.specs.World.Run.{Stays}
use Rattle.ocm_law_world.specs.Stories.{after}
use Rattle.ocm_law_world.specs.Cases.{alice_abroad, confirmed_abroad}
use Rattle.ocm_law_world.proofs.Telling.{story-run}
use Rattle.ocm_law_world.proofs.Unmade.{unmade}
use Rattle.ocm_law_world.proofs.Worked.{abroad-story}
use Rattle.ocm_law_world.proofs.cases.a_foreign_server_says_what_it_will.Goals as goal

pub returns-clause-unmade : goal.returns-clause-unmade
returns-clause-unmade c = unmade (after alice_abroad confirmed_abroad) offer_to_bob refl

pub returns-clause-run : goal.returns-clause-run
returns-clause-run c = story-run alice_abroad confirmed_abroad Stays abroad-story
