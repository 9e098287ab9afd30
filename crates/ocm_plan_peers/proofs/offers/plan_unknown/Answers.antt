use Rattle.std.proofs.Common.{sym, ◌∙◌, Some}
use Rattle.ocm_rules.specs.State.{view_in}
use Rattle.ocm_plan_peers.proofs.Offered.{limit-reply}
use Rattle.ocm_plan_peers.proofs.offers.plan_unknown.Goals as goal

pub returns-in-Some : goal.returns-in-Some
returns-in-Some c =
    c.refused.ensures.plans _ (sym (c.requires.reply ∙ limit-reply (view_in c.args.tables.now.state) c.args.offer.now (Some c.in-Some.which) c.requires.new (sym c.limit_of_offer.ensures ∙ c.in-Some.is)))
