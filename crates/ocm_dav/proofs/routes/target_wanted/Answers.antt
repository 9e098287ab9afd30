use Rattle.std.proofs.Common.{rules}
use Rattle.ocm_dav.proofs.Faults.{bad_target}
use Rattle.ocm_dav.proofs.routes.target_wanted.Goals as goal

pub returns-else-begins_with_slash : goal.returns-else-begins_with_slash
returns-else-begins_with_slash c =
    bad_target c.args.config.now c.args.method.now c.args.target.now c.args.closing c.args.fields.now c.args.body.now c.args.fresh c.bad_request.result
    (search rules) (search rules)
