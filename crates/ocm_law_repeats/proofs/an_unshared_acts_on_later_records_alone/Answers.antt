use Rattle.ocm_law_repeats.proofs.Alone.{unshared-alone}
use Rattle.ocm_law_repeats.proofs.an_unshared_acts_on_later_records_alone.Goals as goal

pub returns : goal.returns
returns c = λ host g id secret fresh legal. unshared-alone host g id secret fresh legal
