use Rattle.std.proofs.Common.{map}
use Rattle.ocm_rules.specs.declared.rows.ShareRow.{ShareRow}
use Rattle.ocm_tables.proofs.Numbering.{unused, parent-within}
use Rattle.ocm_tables.proofs.Owned.{owned-share}
use Rattle.ocm_tables.proofs.tables.Tables.add_share.Goals as goal

pub make-id-requires-clause-secret : goal.make-id-requires-clause-secret
make-id-requires-clause-secret c = let secret = rw (← c.self.view_is) at c.requires.fits.secret in (unused c.self.inside.users.users (map (λ (row : ShareRow). row.share) c.self.inside.shares.shares) c.args.share.secret secret).1

pub make-id-requires-clause-parent : goal.make-id-requires-clause-parent
make-id-requires-clause-parent c = let parent = rw (← c.self.view_is) at c.requires.fits.parent in parent-within c.self.inside.shares.shares c.args.share.parent parent

pub invariant_of-self : goal.invariant_of-self
invariant_of-self c =
    let owner = rw (← c.self.view_is) at c.requires.fits.owner in
    rw c.make-id.ensures.shares (record {
      each_told = c.self.invariant.each_told;
      owned = owned-share c.self.inside.users.users c.self.inside.shares.shares c.args.share c.self.invariant.owned c.requires.fits.root owner;
      made = c.self.invariant.made;
    })
