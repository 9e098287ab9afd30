use Rattle.std.proofs.Common.{◌≡◌, rules}
use Rattle.ocm_types.specs.Rights.{is_within}
use Rattle.ocm_types.proofs.Permissions.{each-is_within}
use Rattle.ocm_types.proofs.rights.Perms.within.Goals as goal

pub returns-clause-each : goal.returns-clause-each
returns-clause-each c =
    let e : c.eq.result ≡ is_within c.args.self.now c.args.other = search rules in
    each-is_within c.args.self.now c.args.other c.eq.result e
