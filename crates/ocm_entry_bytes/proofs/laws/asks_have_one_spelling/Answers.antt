use Rattle.std.proofs.Common.{refl, sym, ◌∙◌}
use Rattle.ocm_entry_bytes.proofs.Whole.{spelling-begins, one_ask}
use Rattle.ocm_entry_bytes.proofs.laws.asks_have_one_spelling.Goals as goal

pub returns-clause-one_ask : goal.returns-clause-one_ask
returns-clause-one_ask c = one_ask

pub returns-clause-one_spelling : goal.returns-clause-one_spelling
returns-clause-one_spelling c = λ ask x y first second. first.text ∙ sym second.text

pub returns-clause-no_front : goal.returns-clause-no_front
returns-clause-no_front c = λ a b front rest first second. (spelling-begins a b _ front rest first second refl).1
