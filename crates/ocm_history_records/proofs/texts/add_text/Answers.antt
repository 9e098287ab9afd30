use Rattle.std.proofs.Common.{sym, subst}
use Rattle.std.specs.Prelude.{option_copied}
use Rattle.ocm_journal_image.specs.Layout.{AreRecords}
use Rattle.ocm_history_records.specs.Kept.{lean_text}
use Rattle.ocm_history_records.proofs.Counting.{records-more}
use Rattle.ocm_history_records.proofs.texts.add_text.Goals as goal

pub returns-clause-sizes : goal.returns-clause-sizes
returns-clause-sizes c = λ are.
    subst AreRecords (sym c.in_ok-add_to.ensures.text) (records-more c.args.texts.now (lean_text c.args.kept.now (option_copied c.args.standing)) are c.in_ok-add_to.ensures.length)
