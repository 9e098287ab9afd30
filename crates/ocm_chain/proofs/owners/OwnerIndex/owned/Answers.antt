use Rattle.std.proofs.Common.{◌-◌, length, ap, ◌∙◌, arith}
use Rattle.std.specs.Prelude.{unwrap_or}
use Rattle.ocm_chain.specs.Owners.{owners_of}
use Rattle.ocm_chain.proofs.OwnNumbers.{last-within, earlier-here, link-read, collected-first, collected-next, spent-more}
use Rattle.ocm_chain.proofs.owners.OwnerIndex.owned.Goals as goal

pub loop-number-init : goal.loop-number-init
loop-number-init g c =
    let links = c.self.inside.links.items in
    let first = c.or_none-number.ensures ∙ (ap (λ o. unwrap_or o 0) c.get.ensures.value ∙ c.self.invariant.lasts c.args.owner) in
    let begun = collected-first (owners_of links) c.args.owner (length links) c.or_none-number.result c.new-numbers.result.items first c.new-numbers.ensures.items in
    let none = ap length c.new-numbers.ensures.items in
    record { within = begun.within; here = begun.here; rest = begun.rest; spent = omega (arith, none) }

pub loop-number-smaller : goal.loop-number-smaller
loop-number-smaller g c =
    let links = c.self.inside.links.items in
    let some = c.loop-number-test.true in
    let at = link-read links (c.loop-number.number - 1) c.index.result.now (omega (arith, some, c.loop-number.invariant.within)) c.index.ensures in
    let earlier = earlier-here links c.self.inside.last c.args.owner (c.loop-number.number - 1) c.index.result.now c.self.invariant at (c.loop-number.invariant.here some) in
    let low = last-within (owners_of links) c.args.owner (c.loop-number.number - 1) in
    omega (arith, earlier, low, some)

pub loop-number-preserved : goal.loop-number-preserved
loop-number-preserved g c =
    let links = c.self.inside.links.items in
    let some = c.loop-number-test.true in
    let items = rw c.in_ok-push.was at c.push.ensures.items in
    let at = link-read links (c.loop-number.number - 1) c.index.result.now (omega (arith, some, c.loop-number.invariant.within)) c.index.ensures in
    let earlier = earlier-here links c.self.inside.last c.args.owner (c.loop-number.number - 1) c.index.result.now c.self.invariant at (c.loop-number.invariant.here some) in
    let next = collected-next (owners_of links) c.args.owner (length links) c.loop-number.number c.index.result.now.earlier c.loop-number.numbers.items c.push.new.self.items some c.loop-number.invariant.within (c.loop-number.invariant.here some) c.loop-number.invariant.rest earlier items in
    let more = spent-more c.loop-number.numbers.items c.push.new.self.items c.loop-number.number items in
    record { within = next.within; here = next.here; rest = next.rest; spent = omega (arith, more, c.loop-number.invariant.spent) }
