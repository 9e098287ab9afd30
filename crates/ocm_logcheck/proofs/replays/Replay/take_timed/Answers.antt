use Rattle.std.proofs.Common.{subst}
use Rattle.ocm_logcheck.specs.Steps.{with_clock}
use Rattle.ocm_logcheck.specs.Replays.{GoesOn}
use Rattle.ocm_logcheck.proofs.Going.{goes-nowhere, goes-then}
use Rattle.ocm_logcheck.proofs.replays.Replay.take_timed.Goals as goal

pub returns-then-not-known-clause-goes_on : goal.returns-then-not-known-clause-goes_on
returns-then-not-known-clause-goes_on c = λ host.
    (let lines = c.args.lines.now in
    let old = c.args.self.now in
    let middle = c.pass_on-known.new.self in
    goes-nowhere host lines old middle c.args.clock c.args.ask.now
    (subst (λ b. GoesOn host lines old middle (with_clock host c.args.clock) b) c.if-not-known.true (c.pass_on-known.ensures.goes_on host lines)))

pub returns-clause-goes_on : goal.returns-clause-goes_on
returns-clause-goes_on c = λ host.
    (let lines = c.args.lines.now in
    let old = c.args.self.now in
    let middle = c.pass_on-known.new.self in
    goes-then host lines old middle c.take_ask.new.self c.args.clock c.args.ask.now c.in_ok-taken.taken
    (subst (λ b. GoesOn host lines old middle (with_clock host c.args.clock) b) c.if-not-known.false (c.pass_on-known.ensures.goes_on host lines))
    (c.in_ok-taken.ensures.goes_on host))
