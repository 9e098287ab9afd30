use Rattle.ocm_law_grants.proofs.Revoked.{unshared-ended}
use Rattle.ocm_law_grants.proofs.revocation.unsharing_ends_a_share.Goals as goal

pub returns : goal.returns
returns c = λ host before key id i below. unshared-ended host before key id i below
