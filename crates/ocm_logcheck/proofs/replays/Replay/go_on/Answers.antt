use Rattle.std.proofs.Common.{◌+◌, sym, ap, ◌∙◌, subst, Ok}
use Rattle.ocm_law_sessions.specs.Readings.{with_ask}
use Rattle.ocm_logcheck.specs.declared.replays.Replay.{Replay}
use Rattle.ocm_logcheck.specs.Replays.{GoesOn}
use Rattle.ocm_logcheck.proofs.Going.{arrives, goes-ask, stays-ask}
use Rattle.ocm_logcheck.proofs.replays.Replay.go_on.Goals as goal

pub returns-then-taken-clause-goes_on : goal.returns-then-taken-clause-goes_on
returns-then-taken-clause-goes_on c = λ host.
    (let lines = c.args.lines.now in
    let old = c.args.self.now in
    let looked = c.look_up_place.new.self in
    let lists = c.take_moment.new.core.state in
    let new : Replay = record looked { core = c.take.new.self; place = looked.place + 1 } in
    subst (λ b. GoesOn host lines old new (with_ask host c.args.ask.now) b) (sym c.if-taken.true)
    (goes-ask host lines old looked lists c.take.new.self c.args.ask.now c.requires.other
    (λ k stands. c.in_ok-look_up_place.ensures.found host k stands)
    (λ k there. arrives host lines looked lists k (c.in_ok-take_moment.ensures.lists host k) (c.in_ok-take_moment.ensures.moment host k) there)
    (λ g after. sym c.if-taken.true ∙ c.in_ok-taken.ensures.taken g after)
    (λ g after. c.take.ensures.goes_on g after (c.in_ok-taken.was ∙ ap (λ b. Ok b) c.if-taken.true))
    c.take.ensures.home))

pub returns-else-taken-clause-goes_on : goal.returns-else-taken-clause-goes_on
returns-else-taken-clause-goes_on c = λ host.
    (let lines = c.args.lines.now in
    let old = c.args.self.now in
    let looked = c.look_up_place.new.self in
    let lists = c.take_moment.new.core.state in
    let new : Replay = record looked { core = c.take.new.self } in
    subst (λ b. GoesOn host lines old new (with_ask host c.args.ask.now) b) (sym c.if-taken.false)
    (stays-ask host lines old looked new lists c.args.ask.now
    (λ k stands. c.in_ok-look_up_place.ensures.found host k stands)
    (λ k there. arrives host lines looked lists k (c.in_ok-take_moment.ensures.lists host k) (c.in_ok-take_moment.ensures.moment host k) there)
    (λ g after. sym c.if-taken.false ∙ c.in_ok-taken.ensures.taken g after)))
