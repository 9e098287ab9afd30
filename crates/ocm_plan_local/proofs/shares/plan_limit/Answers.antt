use Rattle.std.proofs.Common.{length, Some}
use Rattle.ocm_entry.specs.declared.asks.Cmd.TheVariants as commands
use Rattle.ocm_rules.specs.Answers.{refused}
use Rattle.ocm_rules.specs.State.{view_in}
use Rattle.ocm_rules.specs.Answers.{is_full_of_changes}
use Rattle.ocm_rules.specs.Views.{is_live_in, share_of_owner, told_by_limit}
use Rattle.ocm_plan_local.proofs.LocalReplies.{answered, limit-refused}
use Rattle.ocm_plan_local.proofs.shares.plan_limit.Goals as goal

pub returns-in-Err : goal.returns-in-Err
returns-in-Err g c =
    let v = view_in c.args.tables.now.state in
    c.refused.ensures.plans _
    (answered c.args.tables.now.state c.args.key.now (commands.Limit c.args.id c.args.perms) (Some c.args.user) (refused c.in-Err.why) c.requires
    (limit-refused (share_of_owner v c.args.user c.args.id) (is_live_in v c.args.id) c.args.perms (is_full_of_changes v (length (told_by_limit v c.args.id c.args.perms))) c.in-Err.why c.in-Err.ensures.err))
