use Rattle.std.proofs.Common.{subst}
use Rattle.ocm_journal_records.specs.declared.stamps.Stamped.TheVariants.{Timed}
use Rattle.ocm_law_sessions.specs.Readings.{with_ask, with_stamped}
use Rattle.ocm_compact.specs.Replays.{GoesOn, home_of, with_clock}
use Rattle.ocm_compact.proofs.Going.{goes-nowhere, goes-then, if-ok}
use Rattle.ocm_compact.proofs.replays.Replay.take_timed.Goals as goal

pub returns-then-not-known-clause-goes_on : goal.returns-then-not-known-clause-goes_on
returns-then-not-known-clause-goes_on c =
    goes-nowhere c.args.self.now c.take_clock.new.self c.args.clock c.args.ask.now
    (subst (λ b. GoesOn c.args.self.now c.take_clock.new.self (with_clock (home_of c.args.self.now) c.args.clock) b) c.if-not-known.true c.in_ok-known.ensures.goes_on)

pub returns-clause-goes_on : goal.returns-clause-goes_on
returns-clause-goes_on c =
    let old = c.args.self.now in
    let middle = c.take_clock.new.self in
    let new = c.take.new.self in
    if-ok c.take.result (GoesOn middle new (with_ask (home_of middle) c.args.ask.now)) (GoesOn old new (with_stamped (home_of old) (Timed c.args.clock c.args.ask.now)))
    (λ taken goes. goes-then old middle new c.args.clock c.args.ask.now taken c.take_clock.ensures.home
    (subst (λ b. GoesOn old middle (with_clock (home_of old) c.args.clock) b) c.if-not-known.false c.in_ok-known.ensures.goes_on) goes)
    c.take.ensures.goes_on
