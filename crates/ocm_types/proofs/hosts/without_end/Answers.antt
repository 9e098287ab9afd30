use Rattle.std.proofs.Common.{◌∙◌}
use Rattle.ocm_types.proofs.HostTexts.{without_end-strips, unwrap_or-now}
use Rattle.ocm_types.proofs.hosts.without_end.Goals as goal

pub returns : goal.returns
returns c = unwrap_or-now c.strip_suffix.result c.args.s _ c.unwrap_or.ensures ∙ without_end-strips c.args.end.now c.args.s.now c.strip_suffix.result c.strip_suffix.ensures.cases
