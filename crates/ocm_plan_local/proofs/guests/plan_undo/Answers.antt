use Rattle.std.proofs.Common.{Some, is_some}
use Rattle.ocm_entry.specs.declared.asks.Cmd.TheVariants as commands
use Rattle.ocm_entry.specs.declared.refusals.Why.TheVariants.{NotFound}
use Rattle.ocm_rules.specs.Answers.{refused}
use Rattle.ocm_rules.specs.State.{view_in}
use Rattle.ocm_rules.specs.Requests.{child_of}
use Rattle.ocm_rules.specs.Views.{request_of_user}
use Rattle.ocm_plan_local.proofs.LocalReplies.{answered, phase-nothing}
use Rattle.ocm_plan_local.proofs.guests.plan_undo.Goals as goal

pub returns-in_default : goal.returns-in_default
returns-in_default c =
    let st = c.args.tables.now.state in
    let v = view_in st in
    c.refused.ensures.plans _
    (answered st c.args.key.now (commands.Undo c.args.request) (Some c.args.user) (refused NotFound) c.requires (phase-nothing (request_of_user v c.args.user c.args.request) (is_some (child_of (v.state c.args.request))) c.in_default.ensures))
