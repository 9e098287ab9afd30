use Rattle.ocm_law_grants.proofs.Revoked.{ticked-ended}
use Rattle.ocm_law_grants.proofs.revocation.a_tick_ends_the_shares_whose_end_has_come.Goals as goal

pub returns : goal.returns
returns c = λ host before clock id end i has le below. ticked-ended host before clock id end i has le below
