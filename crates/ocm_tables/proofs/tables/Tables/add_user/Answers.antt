use Rattle.std.proofs.Common.{map}
use Rattle.ocm_rules.specs.declared.rows.ShareRow.{ShareRow}
use Rattle.ocm_tables.proofs.Numbering.{unused}
use Rattle.ocm_tables.proofs.Owned.{owned-users}
use Rattle.ocm_tables.proofs.tables.Tables.add_user.Goals as goal

pub add-requires-clause-key : goal.add-requires-clause-key
add-requires-clause-key c = let key = rw (← c.self.view_is) at c.requires.fits.key in (unused c.self.inside.users.users (map (λ (row : ShareRow). row.share) c.self.inside.shares.shares) c.args.user.key key).0

pub invariant_of-self : goal.invariant_of-self
invariant_of-self c = rw c.add.ensures.users (record {
  each_told = c.self.invariant.each_told;
  owned = owned-users c.self.inside.users.users c.args.user c.self.inside.shares.shares c.self.invariant.owned;
  made = c.self.invariant.made;
})
