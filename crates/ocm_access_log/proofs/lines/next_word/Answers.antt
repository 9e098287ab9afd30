use Rattle.std.proofs.Common.{refl}
use Rattle.ocm_access_log.proofs.WordCuts.{words-at, words-none}
use Rattle.ocm_access_log.proofs.lines.next_word.Goals as goal

pub returns-in-Some : goal.returns-in-Some
returns-in-Some c = words-at c.args.line.now _ _ c.in-Some.ensures.1 c.in-Some.ensures.0

pub returns-in-None : goal.returns-in-None
returns-in-None c = (refl, words-none c.args.line.now c.in-None.ensures)
