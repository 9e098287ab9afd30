use Rattle.std.proofs.Common.{sym, ap, ◌∙◌, Option}
use Rattle.std.specs.Option.{option_map_or}
use Rattle.ocm_entry.specs.declared.refusals.Why.{Why}
use Rattle.ocm_rules.specs.Answers.{new_offer_reply, refused}
use Rattle.ocm_rules.specs.State.{view_in}
use Rattle.ocm_plan_peers.proofs.offers.plan_offer.Goals as goal

pub returns-in-Some : goal.returns-in-Some
returns-in-Some c =
    let v = view_in c.args.tables.now.state in
    c.refused.ensures.plans _ (sym (c.fault_of.ensures ∙ ap (λ (fault : Option Why). option_map_or refused fault (new_offer_reply v c.args.offer.now)) c.in-Some.is))
