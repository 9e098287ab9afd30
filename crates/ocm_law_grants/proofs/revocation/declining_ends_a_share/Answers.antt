use Rattle.ocm_law_grants.proofs.Revoked.{declined-ended}
use Rattle.ocm_law_grants.proofs.revocation.declining_ends_a_share.Goals as goal

pub returns : goal.returns
returns c = λ host before id secret fresh number i names below. declined-ended host before id secret fresh number i names below
