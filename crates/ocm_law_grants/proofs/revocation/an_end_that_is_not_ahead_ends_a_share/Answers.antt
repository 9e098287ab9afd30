use Rattle.ocm_law_grants.proofs.Revoked.{expired-ended}
use Rattle.ocm_law_grants.proofs.revocation.an_end_that_is_not_ahead_ends_a_share.Goals as goal

pub returns : goal.returns
returns c = λ host before key id end i le below. expired-ended host before key id end i le below
