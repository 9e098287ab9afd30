use Rattle.std.proofs.Common.{◌∙◌}
use Rattle.ocm_plan_local.proofs.UserLines.{all-added, records-told, requests-told, shares-told}
use Rattle.ocm_plan_local.proofs.listings.listing.Goals as goal

pub returns : goal.returns
returns g c =
    let st = c.args.tables.now.state in
    all-added _ _ _ _ _ _ _ _ _ _ c.new-lines.ensures c.in_ok-add_shares.ensures c.in_ok-add_received.ensures c.in_ok-add_requests.ensures
    (shares-told st c.args.user c.as_slice.result.now (c.as_slice.ensures ∙ c.in_ok-shares.ensures.shares))
    (records-told st c.args.user c.args.name.now c.as_slice-2.result.now c.requires (c.as_slice-2.ensures ∙ c.in_ok-received.ensures))
    (requests-told st c.args.user c.args.name.now c.as_slice-3.result.now c.requires (c.as_slice-3.ensures ∙ c.in_ok-requests.ensures))
