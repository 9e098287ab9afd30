use Rattle.ocm_law_world.proofs.Laws.{answer-true}
use Rattle.ocm_law_world.proofs.Steps.{alone-ours, alone-reached}
use Rattle.ocm_law_world.proofs.guests.an_answer_under_way_is_true.Goals as goal

pub returns-clause-among_others : goal.returns-clause-among_others
returns-clause-among_others c = answer-true

pub returns-clause-alone : goal.returns-clause-alone
returns-clause-alone c = λ w newer older a s n offer run under is sent well. answer-true w newer older a s n offer (alone-reached w run) under is sent well (alone-ours w run offer.owner.host)
