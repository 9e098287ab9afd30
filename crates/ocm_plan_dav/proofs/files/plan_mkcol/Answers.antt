use Rattle.std.proofs.Common.{◌≡◌, true, false, None, ◌∙◌, sym, ap}
use Rattle.ocm_entry.specs.declared.asks.Method.TheVariants as methods
use Rattle.ocm_entry.specs.declared.refusals.Why.TheVariants.{BodyRefused, Limit, NotAllowed, ParentMissing}
use Rattle.ocm_entry.specs.declared.rows.Node.{Node}
use Rattle.ocm_entry.specs.declared.rows.Place.{Place}
use Rattle.ocm_entry.specs.declared.rows.Standing.TheVariants.{Collection}
use Rattle.ocm_rules.specs.Answers.{has_bytes, is_collection}
use Rattle.ocm_rules.specs.Files.{limit_of, parent_of}
use Rattle.ocm_rules.specs.State.{view_in}
use Rattle.ocm_plan_dav.proofs.Rows.{mkcol-onto, mkcol-orphan, mkcol-body, mkcol-limited, mkcol-made}
use Rattle.ocm_plan_dav.proofs.Methods.{refuses, creates}
use Rattle.ocm_plan_dav.proofs.files.plan_mkcol.Goals as goal

pub returns-then-stands : goal.returns-then-stands
returns-then-stands c =
    let st = c.args.tables.now.state in
    let v = view_in st in
    let here = v.stands c.args.place in
    let at_parent = v.stands (parent_of c.args.place) in
    let node : Node = record { place = c.args.place; standing = Collection } in
    let limit = limit_of st.nodes node in
    let body = has_bytes c.args.body.now in
    λ path. refuses st methods.Mkcol c.args.place path c.args.body.now NotAllowed c.refused.result
    (mkcol-onto here at_parent body limit (sym c.stands.ensures ∙ c.if-stands.true)) c.refused.ensures.plans

pub returns-then-not-is_collection : goal.returns-then-not-is_collection
returns-then-not-is_collection c =
    let st = c.args.tables.now.state in
    let v = view_in st in
    let here = v.stands c.args.place in
    let at_parent = v.stands (parent_of c.args.place) in
    let node : Node = record { place = c.args.place; standing = Collection } in
    let limit = limit_of st.nodes node in
    let body = has_bytes c.args.body.now in
    let orphan : is_collection at_parent ≡ false = ap (λ (p : Place). is_collection (v.stands p)) (sym c.in_ok-parent.ensures) ∙ sym c.is_collection.ensures ∙ c.if-not-is_collection.true in
    λ path. refuses st methods.Mkcol c.args.place path c.args.body.now ParentMissing c.refused-then-not-is_collection.result
    (mkcol-orphan here at_parent body limit (sym c.stands.ensures ∙ c.if-stands.false) orphan) c.refused-then-not-is_collection.ensures.plans

pub returns-then-has_bytes : goal.returns-then-has_bytes
returns-then-has_bytes c =
    let st = c.args.tables.now.state in
    let v = view_in st in
    let here = v.stands c.args.place in
    let at_parent = v.stands (parent_of c.args.place) in
    let node : Node = record { place = c.args.place; standing = Collection } in
    let limit = limit_of st.nodes node in
    let body = has_bytes c.args.body.now in
    let inside : is_collection at_parent ≡ true = ap (λ (p : Place). is_collection (v.stands p)) (sym c.in_ok-parent.ensures) ∙ sym c.is_collection.ensures ∙ c.if-not-is_collection.false in
    λ path. refuses st methods.Mkcol c.args.place path c.args.body.now BodyRefused c.refused-then-has_bytes.result
    (mkcol-body here at_parent body limit (sym c.stands.ensures ∙ c.if-stands.false) inside (sym c.has_bytes.ensures ∙ c.if-has_bytes.true)) c.refused-then-has_bytes.ensures.plans

pub returns-in-Some : goal.returns-in-Some
returns-in-Some c =
    let st = c.args.tables.now.state in
    let v = view_in st in
    let here = v.stands c.args.place in
    let at_parent = v.stands (parent_of c.args.place) in
    let node : Node = record { place = c.args.place; standing = Collection } in
    let limit = limit_of st.nodes node in
    let body = has_bytes c.args.body.now in
    let inside : is_collection at_parent ≡ true = ap (λ (p : Place). is_collection (v.stands p)) (sym c.in_ok-parent.ensures) ∙ sym c.is_collection.ensures ∙ c.if-not-is_collection.false in
    λ path. refuses st methods.Mkcol c.args.place path c.args.body.now (Limit c.in-Some.which) c.refused-in-Some.result
    (mkcol-limited here at_parent body limit c.in-Some.which (sym c.stands.ensures ∙ c.if-stands.false) inside (sym c.has_bytes.ensures ∙ c.if-has_bytes.false) (sym c.limit_of_collection.ensures ∙ c.in-Some.is)) c.refused-in-Some.ensures.plans

pub returns : goal.returns
returns c =
    let st = c.args.tables.now.state in
    let v = view_in st in
    let here = v.stands c.args.place in
    let at_parent = v.stands (parent_of c.args.place) in
    let node : Node = record { place = c.args.place; standing = Collection } in
    let limit = limit_of st.nodes node in
    let body = has_bytes c.args.body.now in
    let inside : is_collection at_parent ≡ true = ap (λ (p : Place). is_collection (v.stands p)) (sym c.in_ok-parent.ensures) ∙ sym c.is_collection.ensures ∙ c.if-not-is_collection.false in
    let within : limit ≡ None = sym c.limit_of_collection.ensures ∙ c.in_default.is in
    λ path. creates st c.args.place path c.args.body.now c.in_ok-node.node c.silent.result
    (mkcol-made here at_parent body limit (sym c.stands.ensures ∙ c.if-stands.false) inside (sym c.has_bytes.ensures ∙ c.if-has_bytes.false) within)
    c.in_ok-node.ensures (ap (limit_of st.nodes) c.in_ok-node.ensures ∙ within) c.silent.ensures.plans
