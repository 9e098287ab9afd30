use Rattle.ocm_logcheck.proofs.Telling.{checks-audit}
use Rattle.ocm_logcheck.proofs.laws.what_an_audit_refuses_is_refused.Goals as goal

pub returns : goal.returns
returns c = checks-audit
