use Rattle.ocm_types.proofs.HostTexts.{after_front-strips}
use Rattle.ocm_types.proofs.hosts.after_front.Goals as goal

pub returns : goal.returns
returns c = after_front-strips c.args.front.now c.args.s.now c.strip_prefix.result c.strip_prefix.ensures.cases
