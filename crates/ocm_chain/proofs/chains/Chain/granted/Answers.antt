use Rattle.std.proofs.Common.{◌∙◌, sym, true, false}
use Rattle.ocm_chain.proofs.LiveShares.{guest-there}
use Rattle.ocm_chain.proofs.chains.Chain.granted.Goals as goal

pub returns-then-not-goes_on-clause-guest : goal.returns-then-not-goes_on-clause-guest
returns-then-not-goes_on-clause-guest g c =
    let goes = rw c.read-row.ensures.reach at (sym c.goes_on.ensures ∙ c.if-not-goes_on.true) in
    rw (← c.self.view_is) (sym (guest-there c.self.inside.moment c.self.inside.rows.shares c.args.id c.read-row.result.now.own false c.read-row.ensures.own goes))

pub returns-clause-guest : goal.returns-clause-guest
returns-clause-guest g c =
    let goes = rw c.read-row.ensures.reach at (sym c.goes_on.ensures ∙ c.if-not-goes_on.false) in
    let there = guest-there c.self.inside.moment c.self.inside.rows.shares c.args.id c.read-row.result.now.own true c.read-row.ensures.own goes in
    rw (← c.self.view_is, c.read-row.ensures.reach) (sym there)
