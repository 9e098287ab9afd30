use Rattle.std.proofs.lemmas.List.{take_rest}
use Rattle.ocm_http.proofs.HeadSteps.{few_lines}
use Rattle.ocm_http.proofs.heads.begin_after.Goals as goal

pub read_head-requires : goal.read_head-requires
read_head-requires c = rw (take_rest c.args.text.now c.blanks-skipped.result) (few_lines c.blanks-skipped.result c.args.text.now c.requires)
