use Rattle.std.proofs.Common.{◌≡◌, ◌+◌, ◌++◌, ◌∷◌, [], ap, ◌∙◌, arith}
use Rattle.std.proofs.lemmas.List.{length-map, map-append}
use Rattle.ocm_rules.specs.declared.rows.ShareRow.{ShareRow}
use Rattle.ocm_rules.specs.State.{new_share_row}
use Rattle.ocm_chain.specs.Lists.{made_of}
use Rattle.ocm_chain.proofs.OneMore.{chain-more}
use Rattle.ocm_chain.proofs.chains.Chain.make_from.Goals as goal

pub invariant_of-self : goal.invariant_of-self
invariant_of-self g c =
    let shares = c.self.inside.rows.shares in
    let planned = c.args.planned in
    let fresh = rw (← c.self.view_is) at c.requires.secret in
    let kept = rw (c.parts-share.ensures.share, c.parts-share.ensures.sender_id) at c.keep.ensures.found in
    let found = rw c.parts-share.ensures.secret at c.add.ensures.found in
    let rows = rw c.parts-share.ensures.share at c.add-3.ensures.shares in
    let owners = rw c.parts-share.ensures.share at c.add-2.ensures.owners in
    let as_many = length-map shares (λ (row : ShareRow). row.share) in
    let made : made_of c.add-3.new.self.shares ≡ made_of shares ++ planned ∷ [] =
    ap made_of rows ∙ map-append (λ (row : ShareRow). row.share) shares (new_share_row planned ∷ []) in
    rw (made, owners)
    (chain-more (made_of shares) c.self.inside.secrets.entries c.add.new.self.entries c.self.inside.requests.entries c.keep.new.self.entries c.self.inside.owners.owners planned (c.len-number.result + 1)
    c.self.invariant (omega (arith, as_many, c.len-number.ensures.len)) fresh found c.add.ensures.len kept c.keep.ensures.len)
