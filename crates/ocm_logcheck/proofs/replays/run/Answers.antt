use Rattle.std.proofs.Common.{◌≡◌, length, subst, arith}
use Rattle.ocm_law_sessions.specs.Readings.{goes_on}
use Rattle.ocm_logcheck.specs.Replays.{GoesOn}
use Rattle.ocm_logcheck.proofs.Going.{opened-all, opened-next, opened-none, opened-refused}
use Rattle.ocm_logcheck.proofs.replays.run.Goals as goal

pub loop-record-init : goal.loop-record-init
loop-record-init c = record {
  room = omega arith;
  opened = λ host stands. opened-none host c.args.form c.args.lines.now c.args.replay.now stands;
}

pub loop-record-preserved : goal.loop-record-preserved
loop-record-preserved c =
    let lines = c.args.lines.now in
    let old = c.loop-record.replay in
    let new = c.take_record.new.self in
    let r = c.record-item.result in
    record {
      room = omega arith;
      opened = λ host stands.
          opened-next host c.args.form lines c.args.records.now c.loop-record.record-index r old new (omega arith) c.record-item.is (c.loop-record.invariant.opened host stands)
          (subst (λ b. GoesOn host lines old new (λ k. goes_on host c.args.form k r.bytes) b) c.if-not-going.false
          (subst (λ bytes. GoesOn host lines old new (λ k. goes_on host c.args.form k bytes) c.in_ok-going.going) c.as_slice.ensures (c.in_ok-going.ensures.goes_on host)));
    }

pub returns-then-not-going-clause-refused : goal.returns-then-not-going-clause-refused
returns-then-not-going-clause-refused c = λ host stands.
    (let lines = c.args.lines.now in
    let old = c.loop-record.replay in
    let new = c.take_record.new.self in
    let r = c.record-item.result in
    opened-refused host c.args.form lines c.args.records.now c.loop-record.record-index r old new (omega arith) c.record-item.is (c.loop-record.invariant.opened host stands)
    (subst (λ b. GoesOn host lines old new (λ k. goes_on host c.args.form k r.bytes) b) c.if-not-going.true
    (subst (λ bytes. GoesOn host lines old new (λ k. goes_on host c.args.form k bytes) c.in_ok-going.going) c.as_slice.ensures (c.in_ok-going.ensures.goes_on host))))

pub returns-clause-counted : goal.returns-clause-counted
returns-clause-counted c = λ host stands.
    (let whole : c.loop-record.record-index ≡ length c.args.records.now = omega arith in
    opened-all host c.args.form c.loop-record.record-index c.args.lines.now c.args.records.now c.loop-record.replay c.look_up_place.new.self whole (c.loop-record.invariant.opened host stands)
    (λ k first. c.in_ok-look_up_place.ensures.found host k first))
