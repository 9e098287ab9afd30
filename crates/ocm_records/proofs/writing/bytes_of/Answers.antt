use Rattle.std.proofs.Common.{◌∙◌}
use Rattle.ocm_records.proofs.ReadBack.{json_again}
use Rattle.ocm_records.proofs.writing.bytes_of.Goals as goal

pub returns-clause-reads_back : goal.returns-clause-reads_back
returns-clause-reads_back c = λ shallow. json_again _ _ _ (c.in_ok-shared.ensures ∙ c.from_vec.ensures) c.in_ok-text.ensures.utf8 (c.in_ok-text.ensures.reads_back shallow)
