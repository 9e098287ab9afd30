use Rattle.std.proofs.Common.{sym, ◌∙◌}
use Rattle.ocm_chain.proofs.LiveShares.{live-there, live-absent}
use Rattle.ocm_chain.proofs.chains.Chain.is_live.Goals as goal

pub returns-in-Some-clause-live : goal.returns-in-Some-clause-live
returns-in-Some-clause-live g c =
    let own = rw (← c.self.view_is) at c.in-Some.ensures.own in
    let reach = rw (← c.self.view_is) at c.in-Some.ensures.reach in
    rw (← c.self.view_is)
    (c.goes_on.ensures ∙ rw reach (sym (live-there c.self.inside.moment c.self.inside.rows.shares c.args.id c.in-Some.row.now.own (sym own))))

pub returns-in-None-clause-live : goal.returns-in-None-clause-live
returns-in-None-clause-live g c = sym (live-absent c.args.self.now.moment c.args.self.now.shares c.args.id (sym c.in-None.ensures.own))
