use Rattle.std.proofs.Common.{sym, ap}
use Rattle.ocm_rules.specs.declared.rows.Told.{Told}
use Rattle.ocm_plan_local.proofs.UserLines.{line-added, none-added, record-not_told, record-told}
use Rattle.ocm_plan_local.proofs.listings.add_record.Goals as goal

pub returns-in_ok-push : goal.returns-in_ok-push
returns-in_ok-push c =
    line-added _ _ _ _ _ c.in_ok-push.ensures.ok c.in_ok-line.ensures
    (record-told c.args.tables.now.state c.args.number c.in-Some.received.now c.told.result.perms (sym c.in-Some.ensures) (ap (λ (told : Told). told.perms) c.told.ensures))

pub returns-in_default : goal.returns-in_default
returns-in_default c = none-added _ _ (record-not_told c.args.tables.now.state c.args.number (sym c.in_default.ensures))
