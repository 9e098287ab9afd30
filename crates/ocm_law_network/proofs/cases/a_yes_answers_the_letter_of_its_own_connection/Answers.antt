use Rattle.ocm_law_network.proofs.Mistaken.{mistaken-log, mistaken-others, mistaken-pages, mistaken-unmade}
use Rattle.ocm_law_network.proofs.cases.a_yes_answers_the_letter_of_its_own_connection.Goals as goal

pub returns-clause-log : goal.returns-clause-log
returns-clause-log c = mistaken-log

pub returns-clause-pages : goal.returns-clause-pages
returns-clause-pages c = mistaken-pages

pub returns-clause-unmade : goal.returns-clause-unmade
returns-clause-unmade c = mistaken-unmade

pub returns-clause-theirs : goal.returns-clause-theirs
returns-clause-theirs c = mistaken-others
