use Rattle.ocm_commands_dav.proofs.OneAnswers.{works_one}
use Rattle.ocm_commands_dav.proofs.Spelling.{task_one}
use Rattle.ocm_commands_dav.proofs.laws.words_have_one_answer.Goals as goal

pub returns-clause-task : goal.returns-clause-task
returns-clause-task c = task_one

pub returns-clause-answer : goal.returns-clause-answer
returns-clause-answer c = works_one
