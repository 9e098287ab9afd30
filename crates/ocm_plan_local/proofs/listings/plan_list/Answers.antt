use Rattle.std.proofs.Common.{List, Some, refl, sym, ap}
use Rattle.ocm_entry.specs.declared.asks.Cmd.TheVariants as commands
use Rattle.ocm_entry.specs.declared.listings.Line.{Line}
use Rattle.ocm_entry.specs.declared.replies.Reply.TheVariants.{Listing}
use Rattle.ocm_plan_local.proofs.LocalReplies.{answered}
use Rattle.ocm_plan_local.proofs.listings.plan_list.Goals as goal

pub returns : goal.returns
returns g c =
    c.only.ensures.plans _
    (answered c.args.tables.now.state c.args.key.now commands.List (Some c.args.user) (Listing c.in_ok-lines.lines) c.requires (ap (λ (lines : List Line). Listing lines) (sym c.in_ok-lines.ensures)))
    refl
