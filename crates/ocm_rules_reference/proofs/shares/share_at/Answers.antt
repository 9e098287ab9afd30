use Rattle.std.proofs.Common.{rules}
use Rattle.std.specs.Prelude.{IsTrue}
use Rattle.ocm_rules.specs.Numbers.{at_number}
use Rattle.ocm_entry.specs.Proper.{is_short}
use Rattle.ocm_rules_reference.proofs.Lists.{each_lent, short_found}
use Rattle.ocm_rules_reference.proofs.shares.share_at.Goals as goal

pub returns-clause-short : goal.returns-clause-short
returns-clause-short c =
    each_lent (λ s. IsTrue (is_short s.root)) c.row_at.result (at_number c.args.shares.now c.args.id) (search rules)
    (short_found c.args.shares.now c.args.id c.requires)
