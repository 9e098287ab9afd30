use Rattle.std.proofs.Common.{◌≡◌, ◌-◌, length}
use Rattle.ocm_tree.proofs.Carried.{beside-first}
use Rattle.ocm_tree.proofs.amounts.is_copied_beside.Goals as goal

pub returns-then-rest-eq0 : goal.returns-then-rest-eq0
returns-then-rest-eq0 c =
    let rest : c.saturating_sub-rest.result ≡ length c.args.place.now.path - length c.args.from.now.path = rw (← c.segments-depth.ensures.value, ← c.segments.ensures.value) c.saturating_sub-rest.ensures in
    beside-first c.args.from.now c.args.to.now c.args.place.now c.saturating_sub-rest.result rest c.if-rest-eq0.true
