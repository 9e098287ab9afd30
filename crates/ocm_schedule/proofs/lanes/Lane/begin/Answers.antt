use Rattle.std.proofs.Common.{sym, ap, ◌∙◌}
use Rattle.std.specs.Prelude.{is_some, nat_lt}
use Rattle.std.proofs.lemmas.Bool.{and_parts, false≢true}
use Rattle.ocm_schedule.specs.Circles.{stands}
use Rattle.ocm_schedule.specs.Lanes.{Queue, is_awaited}
use Rattle.ocm_schedule.proofs.LaneLemmas.{awaited_stands}
use Rattle.ocm_schedule.proofs.lanes.Lane.begin.Goals as goal

pub unreachable-requires : goal.unreachable-requires
unreachable-requires c =
    let q : Queue = c.args.self.now in
    let awaited = (and_parts (nat_lt q.busy q.seats) (is_awaited c.args.now q) c.requires.may).1 in
    let lines = ap (λ (r : Queue). r.circle) (c.self.view_is ∙ c.rouse.ensures) in
    let found = c.next.ensures.some (ap stands lines ∙ awaited_stands c.args.now q awaited) in
    false≢true (sym (ap is_some c.in_default.is) ∙ found)
