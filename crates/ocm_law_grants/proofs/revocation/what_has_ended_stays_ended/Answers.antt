use Rattle.ocm_rules.specs.History.{kept}
use Rattle.ocm_rules.specs.Shares.{made}
use Rattle.ocm_law_grants.proofs.Permissions.{at_number-length}
use Rattle.ocm_law_grants.proofs.Revoked.{ended-stays}
use Rattle.ocm_law_grants.proofs.revocation.what_has_ended_stays_ended.Goals as goal

pub returns : goal.returns
returns c = λ host later g i m legal is ended. ended-stays host later g i legal (at_number-length (made host (kept host g)) i m is) ended
