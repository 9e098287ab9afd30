use Rattle.std.proofs.Common.{◌++◌, ◌∷◌, [], refl}
use Rattle.ocm_rules.specs.Cases.{host_of_bob, offer_to_bob}
use Rattle.ocm_law_world.specs.Cases.{forged, story}
use Rattle.ocm_law_world.specs.Wrong.{forged_settlement}
use Rattle.ocm_law_world.proofs.Unmade.{unmade}
use Rattle.ocm_law_world.proofs.wrong.a_settlement_arises_by_a_delivery_alone.Goals as goal

pub returns-clause-unmade : goal.returns-clause-unmade
returns-clause-unmade c = unmade (story (forged ++ forged_settlement host_of_bob ∷ [])) offer_to_bob refl
