use Rattle.ocm_law_counts.proofs.Numbers.{messages-have-numbers}
use Rattle.ocm_law_counts.proofs.messages_have_numbers.Goals as goal

pub returns : goal.returns
returns c = messages-have-numbers
