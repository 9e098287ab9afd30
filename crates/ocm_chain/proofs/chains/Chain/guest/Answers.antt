use Rattle.std.proofs.Common.{sym}
use Rattle.ocm_chain.proofs.LiveShares.{found-within}
use Rattle.ocm_chain.proofs.chains.Chain.guest.Goals as goal

pub granted-requires-clause-low : goal.granted-requires-clause-low
granted-requires-clause-low g c = (found-within c.args.self.now.shares c.args.secret.now c.in_ok-id.id (sym c.in_ok-id.ensures.found)).0

pub granted-requires-clause-high : goal.granted-requires-clause-high
granted-requires-clause-high g c = (found-within c.args.self.now.shares c.args.secret.now c.in_ok-id.id (sym c.in_ok-id.ensures.found)).1
