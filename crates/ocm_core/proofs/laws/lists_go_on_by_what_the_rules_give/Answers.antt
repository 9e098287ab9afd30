use Rattle.std.proofs.Common.{sym}
use Rattle.ocm_rules.specs.History.{answer}
use Rattle.ocm_core.proofs.Standing.{IsAfter-answered, reply-after}
use Rattle.ocm_core.proofs.laws.lists_go_on_by_what_the_rules_give.Goals as goal

pub returns : goal.returns
returns c = λ st g ask h. IsAfter-answered st g ask (answer st.host g ask) h (sym (reply-after st g ask h))
