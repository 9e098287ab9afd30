use Rattle.ocm_access_log.proofs.TextTests.{text_of-text, text_of-none}
use Rattle.ocm_access_log.proofs.words.text_of.Goals as goal

pub returns-in-Ok : goal.returns-in-Ok
returns-in-Ok c = text_of-text c.args.word.now c.in-Ok.text.now c.in-Ok.ensures.cases.0 c.in-Ok.ensures.cases.1

pub returns-in-Err : goal.returns-in-Err
returns-in-Err c = text_of-none c.args.word.now c.in-Err.ensures.cases.0
