use Rattle.ocm_log_files.specs.Fronts.{Follows, IsNumber, IsRead}
use Rattle.ocm_log_files.proofs.Fronts.{no_word, none_follows, number_lacks, word_then, a_moment}
use Rattle.ocm_log_files.proofs.lines.is_front_of_line.Goals as goal

pub returns-then-is_number : goal.returns-then-is_number
returns-then-is_number c = word_then IsNumber (Follows IsNumber IsRead) number_lacks _ _ _ c.in-Some.ensures.1 c.in-Some.ensures.0 _ c.if-is_number.ensures c.is_front_of_moment.ensures

pub returns-else-is_number : goal.returns-else-is_number
returns-else-is_number c = no_word IsNumber (Follows IsNumber IsRead) number_lacks _ _ _ c.in-Some.ensures.1 c.in-Some.ensures.0 _ c.is_number.ensures c.if-is_number.ensures

pub returns-in-None : goal.returns-in-None
returns-in-None c = none_follows IsNumber (Follows IsNumber IsRead) _ a_moment _ c.in-None.ensures _ c.is_front_of_number.ensures
