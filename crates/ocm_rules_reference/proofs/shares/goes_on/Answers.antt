use Rattle.std.proofs.Common.{sym, ap, ◌∙◌}
use Rattle.std.specs.Prelude.{not}
use Rattle.ocm_rules_reference.proofs.Readings.{goes_on_unless_closed}
use Rattle.ocm_rules_reference.proofs.shares.goes_on.Goals as goal

pub returns : goal.returns
returns c = ap (λ b. not b) c.is_closed.ensures ∙ sym (goes_on_unless_closed c.args.entries.now c.args.id c.requires)
