use Rattle.ocm_entry.specs.declared.asks.Ask.TheVariants.{Tick}
use Rattle.ocm_law_sessions.specs.Readings.{with_ask}
use Rattle.ocm_compact.specs.Replays.{GoesOn, home_of, with_clock}
use Rattle.ocm_compact.proofs.Going.{if-ok, takes-none, takes-tick}
use Rattle.ocm_compact.proofs.replays.Replay.take_clock.Goals as goal

pub returns-then-clock-moment-clause-goes_on : goal.returns-then-clock-moment-clause-goes_on
returns-then-clock-moment-clause-goes_on c = takes-none c.args.self.now c.args.clock c.moment-moment.result c.moment-moment.ensures.history c.if-clock-moment.true

pub returns-clause-goes_on : goal.returns-clause-goes_on
returns-clause-goes_on c =
    let old = c.args.self.now in
    let new = c.take_tick.new.self in
    if-ok c.take_tick.result (GoesOn old new (with_ask (home_of old) (Tick c.args.clock))) (GoesOn old new (with_clock (home_of old) c.args.clock))
    (λ taken goes. takes-tick old new c.args.clock c.moment-moment.result taken c.moment-moment.ensures.history c.if-clock-moment.false goes) c.take_tick.ensures.goes_on
