use Rattle.std.proofs.Common.{◌≡◌, rules}
use Rattle.ocm_types.specs.Rights.{perms_of}
use Rattle.ocm_types.proofs.Permissions.{exact-perms_of}
use Rattle.ocm_types.proofs.rights.Perms.read_list.Goals as goal

pub returns-clause-exact : goal.returns-clause-exact
returns-clause-exact c =
    let e : c.of.result ≡ perms_of c.args.s.now = search rules in
    exact-perms_of c.args.s.now c.of.result e
