use Rattle.std.proofs.Common.{sym, ◌∙◌}
use Rattle.ocm_rules_reference.proofs.Readings.{effective_as_granted}
use Rattle.ocm_rules_reference.proofs.shares.effective_among.Goals as goal

pub returns : goal.returns
returns c = c.permitted.ensures ∙ sym (effective_as_granted c.args.shares.now c.args.entries.now c.args.id c.requires)
