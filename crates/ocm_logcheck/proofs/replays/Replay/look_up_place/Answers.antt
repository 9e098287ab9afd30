use Rattle.std.proofs.Common.{◌+◌, refl, ◌∙◌, subst}
use Rattle.std.specs.Prelude.{if◌then◌else◌}
use Rattle.ocm_rules.specs.Lean.{count}
use Rattle.ocm_logcheck.specs.Replays.{IsLookedUp}
use Rattle.ocm_logcheck.proofs.Going.{looks-up}
use Rattle.ocm_logcheck.proofs.replays.Replay.look_up_place.Goals as goal

pub loop-init : goal.loop-init
loop-init c = record { place = refl; clock = refl; looked = λ host k stands. looks-up host c.args.lines.now c.args.self.now k stands }

pub loop-preserved : goal.loop-preserved
loop-preserved c = record {
  place = c.look_up_next.ensures.place ∙ c.loop.invariant.place;
  clock = c.look_up_next.ensures.clock ∙ c.loop.invariant.clock;
  looked = λ host k stands.
      subst (λ b. IsLookedUp host c.args.lines.now (if b then count host k else count host k + 1) c.look_up_next.new.self k) c.if-branch.true
      (c.in_ok-look_up_next.ensures.found host k (c.loop.invariant.looked host k stands));
}
