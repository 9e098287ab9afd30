use Rattle.std.proofs.Common.{ap}
use Rattle.ocm_rules.specs.Offers.{is_confirmed}
use Rattle.ocm_law_world.proofs.Reached.{guest}
use Rattle.ocm_law_world.proofs.Steps.{alone-ours, alone-reached}
use Rattle.ocm_law_world.proofs.guests.a_confirmed_share_was_made_by_its_owner.Goals as goal

pub returns-clause-among_others : goal.returns-clause-among_others
returns-clause-among_others c = λ w host s n offer reached is there confirmed. guest w reached host s is n offer there (ap is_confirmed confirmed)

pub returns-clause-alone : goal.returns-clause-alone
returns-clause-alone c = λ w host s n offer run is there confirmed. guest w (alone-reached w run) host s is n offer there (ap is_confirmed confirmed) (alone-ours w run offer.owner.host)
