use Rattle.std.proofs.Common.{Some, refl}
use Rattle.ocm_entry.specs.declared.asks.Cmd.TheVariants as commands
use Rattle.ocm_entry.specs.declared.replies.Reply.TheVariants.{Done}
use Rattle.ocm_rules.specs.Answers.{refused}
use Rattle.ocm_rules.specs.State.{view_in}
use Rattle.ocm_rules.specs.Views.{is_live_in, share_of_owner}
use Rattle.ocm_plan_local.proofs.LocalReplies.{answered, end-done}
use Rattle.ocm_plan_local.proofs.Makes.{expire-makes}
use Rattle.ocm_plan_local.proofs.shares.plan_expire.Goals as goal

pub returns-in-Ok : goal.returns-in-Ok
returns-in-Ok g c =
    let st = c.args.tables.now.state in
    let own = c.in-Ok.ensures.ok in
    c.silent.ensures.plans _
    (answered st c.args.key.now (commands.Expire c.args.id c.args.until) (Some c.args.user) Done c.requires (end-done (share_of_owner (view_in st) c.args.user c.args.id) (is_live_in (view_in st) c.args.id) c.in-Ok._share.now own.owned own.live))
    refl refl
    (expire-makes st c.args.key.now c.args.id c.args.until Done)
    own.there refl

pub returns-in-Err : goal.returns-in-Err
returns-in-Err g c = c.refused.ensures.plans _ (answered c.args.tables.now.state c.args.key.now (commands.Expire c.args.id c.args.until) (Some c.args.user) (refused c.in-Err.why) c.requires c.in-Err.ensures.err)
