use Rattle.std.proofs.Common.{◌∙◌, refl}
use Rattle.ocm_chain.proofs.LiveShares.{live-there}
use Rattle.ocm_chain.proofs.chains.Chain.access.Goals as goal

pub returns-clause-access : goal.returns-clause-access
returns-clause-access g c =
    let live = live-there c.self.inside.moment c.self.inside.rows.shares c.args.id c.read.result.now.own c.read.ensures.own in
    rw (← c.self.view_is) (c.of.ensures ∙ rw (c.goes_on.ensures, c.read.ensures.reach, live) refl)
