use Rattle.std.proofs.Common.{List, ◌∷◌, refl, ◌∙◌, ap}
use Rattle.ocm_entry.specs.declared.asks.Method.TheVariants as methods
use Rattle.ocm_entry.specs.declared.refusals.Why.TheVariants.{NotFound}
use Rattle.ocm_entry.specs.declared.listings.DavItem.{DavItem}
use Rattle.ocm_entry.specs.declared.replies.Reply.TheVariants as replies
use Rattle.ocm_entry.specs.declared.rows.Node.{Node}
use Rattle.ocm_rules.specs.Answers.{item, items_in}
use Rattle.ocm_rules.specs.State.{view_in}
use Rattle.ocm_plan_dav.proofs.Rows.{list-none, list-items}
use Rattle.ocm_plan_dav.proofs.Methods.{refuses, tells}
use Rattle.ocm_plan_dav.proofs.listings.plan_items.Goals as goal

pub returns-in_default : goal.returns-in_default
returns-in_default c =
    let st = c.args.tables.now.state in
    λ body. refuses st methods.List1 c.args.place.now c.args.path.now body NotFound c.refused.result
    (list-none (items_in st.nodes c.args.place.now c.args.path.now) c.args.path.now c.standing_at.result ((view_in st).stands c.args.place.now) c.in_default.is c.standing_at.ensures) c.refused.ensures.plans

pub returns : goal.returns
returns c =
    let st = c.args.tables.now.state in
    let path = c.args.path.now in
    let at = c.in-Some.standing in
    λ body. tells st methods.List1 c.args.place.now path body (replies.Items c.in_ok-items.items) c.only.result
    (ap replies.Items (c.in_ok-items.ensures ∙ ap (λ (inside : List DavItem). item path at.now ∷ inside) (c.in_ok-inside.ensures path ∙ ap (λ (nodes : List Node). items_in nodes c.args.place.now path) c.files.ensures))
    ∙ list-items (items_in st.nodes c.args.place.now c.args.path.now) path c.standing_at.result at ((view_in st).stands c.args.place.now) c.in-Some.is c.standing_at.ensures)
    (λ secret. refl) c.only.ensures.plans
