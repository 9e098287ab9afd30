use Rattle.std.proofs.Common.{◌≡◌, List, ◌∷◌, ◌∙◌, ap, subst}
use Rattle.ocm_entry.specs.declared.asks.Ask.{Ask}
use Rattle.ocm_entry.specs.declared.entries.Entry.{Entry}
use Rattle.ocm_rules.specs.History.{answer, changes, kept}
use Rattle.ocm_plan.specs.Plans.{Plans}
use Rattle.ocm_core.specs.Standing.{IsAfter}
use Rattle.ocm_core.proofs.Taking.{if-ok-of, told}
use Rattle.ocm_core.proofs.server.Core.take.Goals as goal

pub returns-in-Ok-clause-taken : goal.returns-in-Ok-clause-taken
returns-in-Ok-clause-taken c =
    let st = c.args.self.now.state in
    if-ok-of c.take_planned.result
    (λ taken. (g : List Entry) (ask : Ask) → IsAfter st g → Plans st ask c.in-Ok.planned → taken ≡ changes st.host (kept st.host g) (told ask c.in-Ok.planned.reply))
    (λ taken. (g : List Entry) → IsAfter st g → taken ≡ changes st.host (kept st.host g) (told c.args.ask.now (answer st.host g c.args.ask.now)))
    (λ taken tells g after. tells g c.args.ask.now after c.in-Ok.ensures.plans ∙ ap (λ r. changes st.host (kept st.host g) (told c.args.ask.now r)) (c.in-Ok.ensures.reply g after))
    c.take_planned.ensures.taken

pub returns-in-Ok-clause-goes_on : goal.returns-in-Ok-clause-goes_on
returns-in-Ok-clause-goes_on c = λ g after is.
    subst (λ r. IsAfter c.take_planned.new.self.state (told c.args.ask.now r ∷ g)) (c.in-Ok.ensures.reply g after)
    (c.take_planned.ensures.goes_on g c.args.ask.now after c.in-Ok.ensures.plans is)
