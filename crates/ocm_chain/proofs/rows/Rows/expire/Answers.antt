use Rattle.std.proofs.Common.{◌∙◌, refl, Some}
use Rattle.ocm_rules.specs.declared.rows.ShareRow.{ShareRow}
use Rattle.ocm_chain.proofs.RightRows.{changed_at_one}
use Rattle.ocm_chain.proofs.rows.Rows.expire.Goals as goal

pub returns-clause-shares : goal.returns-clause-shares
returns-clause-shares c =
    c.set.ensures.shares
    ∙ changed_at_one c.args.self.now.shares c.args.id (λ (r : ShareRow). record { share = r.share; perms = c.at.result.now.own.perms; closed = c.at.result.now.own.closed; end = Some c.args.until }) (λ (r : ShareRow). record r { end = Some c.args.until }) c.at.result.now.own c.at.ensures.own refl
