use Rattle.std.proofs.Common.{sym, ◌∙◌}
use Rattle.ocm_schedule.proofs.LaneLemmas.{rouse_more, length_first_roused}
use Rattle.ocm_schedule.proofs.lanes.Lane.rouse.Goals as goal

pub loop-self-preserved : goal.loop-self-preserved
loop-self-preserved c =
    let q = c.loop-self.self in
    rw c.rouse_first.ensures
    (rouse_more c.args.now q (sym c.has_rested.ensures ∙ c.loop-self-test.true) ∙ c.loop-self.invariant.0, length_first_roused q ∙ c.loop-self.invariant.1)
