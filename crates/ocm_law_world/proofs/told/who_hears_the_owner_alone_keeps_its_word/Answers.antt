use Rattle.ocm_law_world.proofs.Owning.{hears-run, sent-said}
use Rattle.ocm_law_world.proofs.told.who_hears_the_owner_alone_keeps_its_word.Goals as goal

pub returns-clause-run : goal.returns-clause-run
returns-clause-run c = λ w. hears-run w.foreign w

pub returns-clause-delivered : goal.returns-clause-delivered
returns-clause-delivered c = sent-said
