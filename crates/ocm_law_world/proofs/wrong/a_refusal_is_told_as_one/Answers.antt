use Rattle.std.proofs.Common.{refl}
use Rattle.ocm_rules.specs.Cases.{offer_to_bob}
use Rattle.ocm_law_world.specs.Cases.{forged, story}
use Rattle.ocm_law_world.proofs.Unmade.{unmade}
use Rattle.ocm_law_world.proofs.wrong.a_refusal_is_told_as_one.Goals as goal

pub returns-clause-unmade : goal.returns-clause-unmade
returns-clause-unmade c = unmade (story forged) offer_to_bob refl
