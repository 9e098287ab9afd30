use Rattle.std.proofs.Common.{◌≡◌, true, false, ◌∙◌, sym, ap}
use Rattle.ocm_entry.specs.declared.asks.Method.TheVariants as methods
use Rattle.ocm_entry.specs.declared.refusals.Why.TheVariants.{Limit, NotAllowed, ParentMissing}
use Rattle.ocm_entry.specs.declared.rows.Node.{Node}
use Rattle.ocm_entry.specs.declared.rows.Place.{Place}
use Rattle.ocm_entry.specs.declared.rows.Standing.TheVariants.{File}
use Rattle.ocm_rules.specs.Answers.{is_collection}
use Rattle.ocm_rules.specs.Files.{limit_of, parent_of}
use Rattle.ocm_rules.specs.State.{view_in}
use Rattle.ocm_plan_dav.proofs.Rows.{put-onto, put-orphan, put-limited}
use Rattle.ocm_plan_dav.proofs.Methods.{refuses}
use Rattle.ocm_plan_dav.proofs.files.plan_put.Goals as goal

pub returns-then-is_collection : goal.returns-then-is_collection
returns-then-is_collection c =
    let st = c.args.tables.now.state in
    let v = view_in st in
    let here = v.stands c.args.place in
    let at_parent = v.stands (parent_of c.args.place) in
    let node : Node = record { place = c.args.place; standing = File c.args.body.now } in
    let limit = limit_of st.nodes node in
    λ path. refuses st methods.Put c.args.place path c.args.body.now NotAllowed c.refused.result
    (put-onto here at_parent limit (sym c.is_collection.ensures ∙ c.if-is_collection.true)) c.refused.ensures.plans

pub returns-then-not-is_collection : goal.returns-then-not-is_collection
returns-then-not-is_collection c =
    let st = c.args.tables.now.state in
    let v = view_in st in
    let here = v.stands c.args.place in
    let at_parent = v.stands (parent_of c.args.place) in
    let node : Node = record { place = c.args.place; standing = File c.args.body.now } in
    let limit = limit_of st.nodes node in
    let orphan : is_collection at_parent ≡ false = ap (λ (p : Place). is_collection (v.stands p)) (sym c.in_ok-parent.ensures) ∙ sym c.is_collection-2.ensures ∙ c.if-not-is_collection.true in
    λ path. refuses st methods.Put c.args.place path c.args.body.now ParentMissing c.refused-then-not-is_collection.result
    (put-orphan here at_parent limit (sym c.is_collection.ensures ∙ c.if-is_collection.false) orphan) c.refused-then-not-is_collection.ensures.plans

pub returns-in-Some : goal.returns-in-Some
returns-in-Some c =
    let st = c.args.tables.now.state in
    let v = view_in st in
    let here = v.stands c.args.place in
    let at_parent = v.stands (parent_of c.args.place) in
    let node : Node = record { place = c.args.place; standing = File c.args.body.now } in
    let limit = limit_of st.nodes node in
    let inside : is_collection at_parent ≡ true = ap (λ (p : Place). is_collection (v.stands p)) (sym c.in_ok-parent.ensures) ∙ sym c.is_collection-2.ensures ∙ c.if-not-is_collection.false in
    λ path. refuses st methods.Put c.args.place path c.args.body.now (Limit c.in-Some.which) c.refused-in-Some.result
    (put-limited here at_parent limit c.in-Some.which (sym c.is_collection.ensures ∙ c.if-is_collection.false) inside (sym c.limit_of_file.ensures ∙ c.in-Some.is)) c.refused-in-Some.ensures.plans
