use Rattle.std.proofs.Common.{refl}
use Rattle.ocm_http.proofs.Cuts.{cut_ends}
use Rattle.ocm_http.proofs.endings.end.Goals as goal

pub returns-in_default : goal.returns-in_default
returns-in_default c = record { ended = tt; cut = refl; fault = cut_ends c.args.rules c.args.stage c.requires c.in_default.not-Head c.in_default.not-ToEnd }
