use Rattle.std.proofs.Common.{◌≡◌, ◌+◌, ap, ◌∙◌, arith}
use Rattle.std.specs.Prelude.{nat_eq, unwrap_or}
use Rattle.std.specs.HashMap as hash
use Rattle.std.proofs.lemmas.List.{length-map}
use Rattle.ocm_chain.specs.declared.owners.OwnedLink.{OwnedLink}
use Rattle.ocm_chain.proofs.OwnNumbers.{owners-index-more}
use Rattle.ocm_chain.proofs.owners.OwnerIndex.add.Goals as goal

pub invariant_of-self : goal.invariant_of-self
invariant_of-self c =
    let links = c.self.inside.links.items in
    let as_many = length-map links (λ (l : OwnedLink). l.owner) in
    let few = rw (← c.self.view_is) at c.requires.few in
    let items = rw c.unwrap.ensures at c.push.ensures.items in
    let put = rw c.unwrap-before.ensures at c.insert-kept.ensures.updates in
    let link : OwnedLink = record { owner = c.args.owner; earlier = c.or_none-earlier.result } in
    let before : c.or_none-earlier.result ≡ unwrap_or (hash.get nat_eq c.self.inside.last c.args.owner) 0 = c.or_none-earlier.ensures ∙ ap (λ o. unwrap_or o 0) c.get.ensures.value in
    rw items (owners-index-more links c.self.inside.last c.insert-kept.new.self link (c.len.result + 1) c.self.invariant (omega (arith, few, as_many)) (omega arith) before put.0)
