use Rattle.std.proofs.Common.{List, ℕ, Option, is_some, ◌∙◌, ap}
use Rattle.ocm_journal_audit.proofs.OwnHosts.{found-tells}
use Rattle.ocm_journal_audit.proofs.labels.is_own_host.Goals as goal

pub returns : goal.returns
returns c = c.is_some.ensures ∙ ap (λ (h : Option (List ℕ)). is_some h) c.in_ok-host.ensures ∙ found-tells c.args.label.now
