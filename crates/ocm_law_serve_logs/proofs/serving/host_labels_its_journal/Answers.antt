use Rattle.std.proofs.Common.{IsUtf8, ap, is_some, subst}
use Rattle.std.proofs.lemmas.Bool.{and_from}
use Rattle.std.proofs.lemmas.Str.{is_utf8-from_IsUtf8}
use Rattle.ocm_law_serve_logs.proofs.serving.host_labels_its_journal.Goals as goal

pub returns : goal.returns
returns c = and_from _ _ (is_utf8-from_IsUtf8 _ (subst IsUtf8 c.as_str-text.ensures c.as_str-text.utf8)) (ap is_some c.host_reads_its_text.ensures.strict)
