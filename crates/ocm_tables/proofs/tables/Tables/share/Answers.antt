use Rattle.std.proofs.Common.{map, IsSome, IsTrue}
use Rattle.ocm_entry.specs.Proper.{is_short}
use Rattle.ocm_entry.specs.declared.rows.Share.{Share}
use Rattle.ocm_rules.specs.declared.rows.ShareRow.{ShareRow}
use Rattle.ocm_rules.specs.Numbers.{at_number}
use Rattle.ocm_tables.proofs.Owned.{each_lent, owner-at, short-at}
use Rattle.ocm_tables.proofs.tables.Tables.share.Goals as goal

pub returns-clause-short : goal.returns-clause-short
returns-clause-short g c =
    each_lent (λ (s : Share). IsTrue (is_short s.root)) c.share.result (at_number (map (λ (row : ShareRow). row.share) c.self.inside.shares.shares) c.args.id) c.share.ensures.share
    (short-at c.self.inside.users.users c.self.inside.shares.shares c.args.id c.self.invariant.owned)

pub returns-clause-owner : goal.returns-clause-owner
returns-clause-owner g c = rw (← c.self.view_is) (
    each_lent (λ (s : Share). IsSome (at_number c.self.inside.users.users s.owner)) c.share.result (at_number (map (λ (row : ShareRow). row.share) c.self.inside.shares.shares) c.args.id) c.share.ensures.share
    (owner-at c.self.inside.users.users c.self.inside.shares.shares c.args.id c.self.invariant.owned))
