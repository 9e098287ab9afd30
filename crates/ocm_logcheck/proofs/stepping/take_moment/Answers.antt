use Rattle.std.proofs.Common.{◌<◌, arith}
use Rattle.ocm_logcheck.proofs.Behind.{behind-tick, tick-clock}
use Rattle.ocm_logcheck.proofs.Taking.{takes-tick}
use Rattle.ocm_logcheck.proofs.stepping.take_moment.Goals as goal

pub returns-clause-lists : goal.returns-clause-lists
returns-clause-lists c = λ host k behind up high.
    (let old = c.args.core.now.state in
    let new = c.take_tick.new.core.state in
    let above : old.moment < c.args.clock = omega arith in
    behind-tick host old new k c.args.clock behind c.take_tick.ensures.home above high
    (takes-tick old new c.args.clock c.take_tick.result c.in_ok-take_tick.field-0 c.in_ok-take_tick.was above c.in_ok-take_tick.ensures.taken c.take_tick.ensures.goes_on))

pub returns-clause-moment : goal.returns-clause-moment
returns-clause-moment c = λ host k behind up.
    (let old = c.args.core.now.state in
    let new = c.take_tick.new.core.state in
    let above : old.moment < c.args.clock = omega arith in
    tick-clock host old new k c.args.clock behind c.take_tick.ensures.home above
    (takes-tick old new c.args.clock c.take_tick.result c.in_ok-take_tick.field-0 c.in_ok-take_tick.was above c.in_ok-take_tick.ensures.taken c.take_tick.ensures.goes_on))
