use Rattle.std.proofs.Common.{◌≡◌, length, true, subst, ◌∙◌, arith}
use Rattle.ocm_law_sessions.specs.Readings.{goes_on}
use Rattle.ocm_compact.specs.Replays.{GoesOn, home_of}
use Rattle.ocm_compact.proofs.Going.{goes-home, opened-all, opened-next}
use Rattle.ocm_compact.proofs.replays.Replay.take_texts.Goals as goal

pub loop-text-preserved : goal.loop-text-preserved
loop-text-preserved c =
    let host = home_of c.args.self.now in
    let old = c.loop-text.self in
    let new = c.take_record.new.self in
    record {
      home = c.in_ok-going.ensures.home ∙ c.loop-text.invariant.home;
      opened = opened-next host 2 c.as_slice-items.result.now c.loop-text.text-index c.text-item.result old new (omega arith) c.text-item.is c.loop-text.invariant.opened
          (goes-home old new host (home_of old) 2 c.text-item.result _ c.loop-text.invariant.home
          (subst (λ b. GoesOn old new (λ k. goes_on (home_of old) 2 k b) true) c.as_slice.ensures
          (subst (λ b. GoesOn old new (λ k. goes_on (home_of old) 2 k c.as_slice.result.now) b) c.if-not-going.false c.in_ok-going.ensures.goes_on)));
    }

pub returns-clause-opens : goal.returns-clause-opens
returns-clause-opens c = λ yes.
    (let items = c.as_slice-items.result.now in
    let whole : c.loop-text.text-index ≡ length items = omega arith in
    opened-all (home_of c.args.self.now) 2 c.loop-text.text-index items c.args.texts.now c.loop-text.self whole c.as_slice-items.ensures c.loop-text.invariant.opened)
