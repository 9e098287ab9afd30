use Rattle.std.proofs.lemmas.List.{take_rest}
use Rattle.ocm_http.proofs.HeadSteps.{few_lines}
use Rattle.ocm_http.proofs.ReadHeads.{whole_lines}
use Rattle.ocm_http.proofs.fronts.read_whole.Goals as goal

pub read_request-requires : goal.read_request-requires
read_request-requires c = rw (take_rest c.args.text.now c.blanks-skipped.result) (few_lines c.blanks-skipped.result c.args.text.now (whole_lines c.args.text.now c.requires))
