use Rattle.ocm_law_network.proofs.Reached.{log-heard, log-word}
use Rattle.ocm_law_network.proofs.laws.who_hears_the_owner_alone_in_the_network_keeps_its_word.Goals as goal

pub returns-clause-log : goal.returns-clause-log
returns-clause-log c = log-heard

pub returns-clause-posted : goal.returns-clause-posted
returns-clause-posted c = log-word
