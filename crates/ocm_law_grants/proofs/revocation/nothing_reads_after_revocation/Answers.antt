use Rattle.std.proofs.Common.{refl}
use Rattle.ocm_law_grants.proofs.Holding.{nothing-granted_later}
use Rattle.ocm_law_grants.proofs.revocation.nothing_reads_after_revocation.Goals as goal

pub returns : goal.returns
returns c = λ host later g i m method path body legal is ended. rw (nothing-granted_later host later g i m legal is ended) refl
