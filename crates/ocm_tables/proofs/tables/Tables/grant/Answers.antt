use Rattle.std.proofs.Common.{◌≡◌, Option, Some, sym, ap, ◌∙◌}
use Rattle.std.specs.Prelude.{option_map}
use Rattle.ocm_types.specs.declared.rights.Rights.{Rights}
use Rattle.ocm_entry.specs.declared.rows.Grant.{Grant}
use Rattle.ocm_entry.specs.declared.rows.Share.{Share}
use Rattle.ocm_chain.specs.Lists.{guest_with}
use Rattle.ocm_tables.proofs.Granting.{granted, granted-guest, short-guest}
use Rattle.ocm_tables.proofs.tables.Tables.grant.Goals as goal

pub returns-in_ok-guest_grant-in-Some-guest-clause-grant : goal.returns-in_ok-guest_grant-in-Some-guest-clause-grant
returns-in_ok-guest_grant-in-Some-guest-clause-grant g c =
    let shares = c.self.inside.shares in
    let none = sym c.with_key.ensures ∙ c.in_default.is in
    let guest : Some (c.in-Some-guest.share.now, c.in-Some-guest.rights) ≡ guest_with shares.moment shares.shares c.args.secret.now = c.in-Some-guest.ensures.guest in
    rw (← c.self.view_is)
    (ap (λ (grant : Grant). Some grant) c.in_ok-guest_grant-in-Some-guest.ensures
    ∙ ap (λ (found : Option (Share × Rights)). option_map granted found) guest
    ∙ granted-guest c.self.inside.users.users shares.moment shares.shares c.args.secret.now none)

pub returns-in_ok-guest_grant-in-Some-guest-clause-short : goal.returns-in_ok-guest_grant-in-Some-guest-clause-short
returns-in_ok-guest_grant-in-Some-guest-clause-short g c =
    let shares = c.self.inside.shares in
    let guest : Some (c.in-Some-guest.share.now, c.in-Some-guest.rights) ≡ guest_with shares.moment shares.shares c.args.secret.now = c.in-Some-guest.ensures.guest in
    rw c.in_ok-guest_grant-in-Some-guest.ensures
    (short-guest c.self.inside.users.users shares.moment shares.shares c.args.secret.now (c.in-Some-guest.share.now, c.in-Some-guest.rights) c.self.invariant.owned guest)

pub returns-in-None-clause-grant : goal.returns-in-None-clause-grant
returns-in-None-clause-grant g c =
    let shares = c.self.inside.shares in
    let none = sym c.with_key.ensures ∙ c.in_default.is in
    rw (← c.self.view_is)
    (ap (λ (found : Option (Share × Rights)). option_map granted found) c.in-None.ensures.guest
    ∙ granted-guest c.self.inside.users.users shares.moment shares.shares c.args.secret.now none)
