use Rattle.ocm_law_counts.proofs.Numbers.{messages-counted}
use Rattle.ocm_law_counts.proofs.messages_are_about_what_is_kept.Goals as goal

pub returns : goal.returns
returns c = messages-counted
