use Rattle.std.proofs.Common.{ap, ◌∙◌, arith}
use Rattle.ocm_history_records.specs.declared.kept.KeptRecord.TheVariants as kinds
use Rattle.ocm_history_records.proofs.Fields.{front-taken}
use Rattle.ocm_history_records.proofs.kept.front_of.Goals as goal

pub returns : goal.returns
returns c = λ front bytes is len. ap kinds.Put (c.in_ok-front.ensures ∙ front-taken c.args.text.now front bytes c.args.body _ is len (omega arith))
