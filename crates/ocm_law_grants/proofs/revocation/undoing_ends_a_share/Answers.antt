use Rattle.ocm_law_grants.proofs.Revoked.{undone-ended}
use Rattle.ocm_law_grants.proofs.revocation.undoing_ends_a_share.Goals as goal

pub returns : goal.returns
returns c = λ host before id secret fresh number i names below. undone-ended host before id secret fresh number i names below
