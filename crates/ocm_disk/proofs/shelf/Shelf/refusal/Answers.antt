use Rattle.std.proofs.Common.{◌≡◌, true, false, length, sym, ap, ◌∙◌, arith}
use Rattle.ocm_disk.specs.Shelf.{has_place}
use Rattle.ocm_disk.proofs.Places.{has_place-position, refused_taken, refused_full, not_refused}
use Rattle.ocm_disk.proofs.shelf.Shelf.refusal.Goals as goal

pub returns-then-is_some : goal.returns-then-is_some
returns-then-is_some c =
    let has : has_place c.args.host.now c.args.self.now ≡ true = has_place-position c.args.host.now c.args.self.now c.index_of.result c.index_of.ensures ∙ sym c.is_some.ensures ∙ c.if-is_some.true in
    refused_taken c.args.host.now c.args.self.now has

pub returns-then-len-eq-MOST_SERVERS : goal.returns-then-len-eq-MOST_SERVERS
returns-then-len-eq-MOST_SERVERS c =
    let has : has_place c.args.host.now c.args.self.now ≡ false = has_place-position c.args.host.now c.args.self.now c.index_of.result c.index_of.ensures ∙ sym c.is_some.ensures ∙ c.if-is_some.false in
    refused_full c.args.host.now c.args.self.now has (omega (arith, ap length c.self.view_is))

pub returns-else-len-eq-MOST_SERVERS : goal.returns-else-len-eq-MOST_SERVERS
returns-else-len-eq-MOST_SERVERS c =
    let has : has_place c.args.host.now c.args.self.now ≡ false = has_place-position c.args.host.now c.args.self.now c.index_of.result c.index_of.ensures ∙ sym c.is_some.ensures ∙ c.if-is_some.false in
    not_refused c.args.host.now c.args.self.now has (λ full. omega (arith, full, ap length c.self.view_is))
