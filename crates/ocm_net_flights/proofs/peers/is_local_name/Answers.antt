use Rattle.std.proofs.Common.{◌≡◌, ℕ, List, true, slice_index, sym, ◌∙◌, subst}
use Rattle.ocm_net_flights.specs.Peers.{is_local_v4, address}
use Rattle.ocm_net_flights.proofs.peers.is_local_name.Goals as goal

pub returns-in-Ok : goal.returns-in-Ok
returns-in-Ok c = λ h.
    let P : List ℕ → Type 0 = λ octets. is_local_v4 (slice_index octets 0) (slice_index octets 1) ≡ true in
    address c.in-Ok.address c.in-Ok.ensures.value (subst P c.octets-octets.ensures (sym c.is_local_v4.ensures ∙ h))
