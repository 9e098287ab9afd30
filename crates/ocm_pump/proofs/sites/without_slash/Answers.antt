use Rattle.std.proofs.Common.{◌∙◌}
use Rattle.std.specs.Prelude.{codes}
use Rattle.ocm_types.proofs.HostTexts.{without_end-strips, unwrap_or-now}
use Rattle.ocm_pump.proofs.sites.without_slash.Goals as goal

pub returns : goal.returns
returns c = unwrap_or-now c.strip_suffix.result c.args.path _ c.unwrap_or.ensures ∙ without_end-strips (codes "/") c.args.path.now c.strip_suffix.result c.strip_suffix.ensures.cases
