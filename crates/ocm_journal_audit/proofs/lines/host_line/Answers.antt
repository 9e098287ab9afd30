use Rattle.std.proofs.Common.{ℕ, List, [], ◌∷◌, ◌++◌, ◌∙◌, ap}
use Rattle.ocm_journal_audit.proofs.lines.host_line.Goals as goal

pub returns : goal.returns
returns c = c.in_ok-add-2.ensures.ok ∙ ap (λ (l : List ℕ). l ++ 10 ∷ []) (c.in_ok-add.ensures.ok ∙ ap (λ (l : List ℕ). l ++ c.args.label.now) c.in_ok-line.ensures)
