use Rattle.std.proofs.Common.{◌≡◌, List, Bool, true, false, Option, is_some, IfSome, ◌∙◌, sym, ap, subst}
use Rattle.ocm_entry.specs.declared.refusals.Why.TheVariants.{Limit, NotFound, Occupied, ParentMissing, SamePlace}
use Rattle.ocm_entry.specs.declared.rows.Node.{Node}
use Rattle.ocm_entry.specs.declared.rows.Place.{Place}
use Rattle.ocm_entry.specs.declared.rows.Standing.{Standing}
use Rattle.ocm_rules.specs.Answers.{carried_reply, is_collection}
use Rattle.ocm_rules.specs.Files.{limit_of_carry, overlap, parent_of}
use Rattle.ocm_rules.specs.State.{node_at, view_in}
use Rattle.ocm_plan_dav.specs.Requests.{PlansCarry}
use Rattle.ocm_plan_dav.proofs.Rows.{if_ok-each}
use Rattle.ocm_plan_dav.proofs.CarryPlans.{IsLimit, apart-below, carry-limited, carry-none, carry-occupied, carry-orphan, carry-refuses, carry-same, is_occupied, limit-within, stands-below}
use Rattle.ocm_plan_dav.proofs.carries.plan_carried.Goals as goal

pub returns-then-not-stands : goal.returns-then-not-stands
returns-then-not-stands c =
    let st = c.args.tables.now.state in
    let v = view_in st in
    let from = c.args.from.now in
    let to = c.args.to.now in
    let here = v.stands from in
    carry-refuses st from to c.args.moving c.args.overwrite NotFound c.refused.result
    (carry-none v from to c.args.moving c.args.overwrite here (sym c.stands.ensures ∙ c.if-not-stands.true)) c.refused.ensures.plans

pub returns-then-overlap : goal.returns-then-overlap
returns-then-overlap c =
    let st = c.args.tables.now.state in
    let v = view_in st in
    let from = c.args.from.now in
    let to = c.args.to.now in
    let here = v.stands from in
    let there : is_some here ≡ true = sym c.stands.ensures ∙ c.if-not-stands.false in
    carry-refuses st from to c.args.moving c.args.overwrite SamePlace c.refused-then-overlap.result
    (carry-same v from to c.args.moving c.args.overwrite here there (sym c.overlap.ensures ∙ c.if-overlap.true)) c.refused-then-overlap.ensures.plans

pub returns-then-not-is_collection : goal.returns-then-not-is_collection
returns-then-not-is_collection c =
    let st = c.args.tables.now.state in
    let v = view_in st in
    let from = c.args.from.now in
    let to = c.args.to.now in
    let here = v.stands from in
    let there : is_some here ≡ true = sym c.stands.ensures ∙ c.if-not-stands.false in
    let apart : overlap from to ≡ false = sym c.overlap.ensures ∙ c.if-overlap.false in
    let inside : is_collection (v.stands (parent_of to)) ≡ false = ap (λ (p : Place). is_collection (v.stands p)) (sym c.in_ok-parent.ensures) ∙ sym c.is_collection.ensures ∙ c.if-not-is_collection.true in
    carry-refuses st from to c.args.moving c.args.overwrite ParentMissing c.refused-then-not-is_collection.result
    (carry-orphan v from to c.args.moving c.args.overwrite here there apart inside) c.refused-then-not-is_collection.ensures.plans

pub returns-then-is_occupied : goal.returns-then-is_occupied
returns-then-is_occupied c =
    let st = c.args.tables.now.state in
    let v = view_in st in
    let from = c.args.from.now in
    let to = c.args.to.now in
    let here = v.stands from in
    let there : is_some here ≡ true = sym c.stands.ensures ∙ c.if-not-stands.false in
    let apart : overlap from to ≡ false = sym c.overlap.ensures ∙ c.if-overlap.false in
    let inside : is_collection (v.stands (parent_of to)) ≡ true = ap (λ (p : Place). is_collection (v.stands p)) (sym c.in_ok-parent.ensures) ∙ sym c.is_collection.ensures ∙ c.if-not-is_collection.false in
    carry-refuses st from to c.args.moving c.args.overwrite Occupied c.refused-then-is_occupied.result
    (carry-occupied v from to c.args.moving c.args.overwrite here there apart inside (sym c.is_occupied.ensures ∙ c.if-is_occupied.true)) c.refused-then-is_occupied.ensures.plans

pub returns-in-Some : goal.returns-in-Some
returns-in-Some c =
    let st = c.args.tables.now.state in
    let v = view_in st in
    let from = c.args.from.now in
    let to = c.args.to.now in
    let here = v.stands from in
    let there : is_some here ≡ true = sym c.stands.ensures ∙ c.if-not-stands.false in
    let apart : overlap from to ≡ false = sym c.overlap.ensures ∙ c.if-overlap.false in
    let inside : is_collection (v.stands (parent_of to)) ≡ true = ap (λ (p : Place). is_collection (v.stands p)) (sym c.in_ok-parent.ensures) ∙ sym c.is_collection.ensures ∙ c.if-not-is_collection.false in
    let free : is_occupied v to c.args.overwrite ≡ false = sym c.is_occupied.ensures ∙ c.if-is_occupied.false in
    let off = apart-below from to c.requires apart in
    let known = node_at st.nodes from in
    let P : List Node → Type 0 = λ nodes. IfSome (node_at nodes from) (λ standing. c.limit_of_carry.result ≡ limit_of_carry nodes from to c.args.moving standing) in
    let is : IsLimit v from to c.args.moving c.limit_of_carry.result known = subst P c.files.ensures c.limit_of_carry.ensures in
    let below : is_some known ≡ true = ap (λ (o : Option Standing). is_some o) (stands-below st from off) ∙ there in
    carry-refuses st from to c.args.moving c.args.overwrite (Limit c.in-Some.which) c.refused-in-Some.result
    (carry-limited v from to c.args.moving c.args.overwrite known c.limit_of_carry.result c.in-Some.which below apart inside free is c.in-Some.is
    ∙ ap (λ (o : Option Standing). carried_reply v from to c.args.moving c.args.overwrite o) (stands-below st from off)) c.refused-in-Some.ensures.plans

pub carry-requires : goal.carry-requires
carry-requires c =
    let st = c.args.tables.now.state in
    let v = view_in st in
    let from = c.args.from.now in
    let to = c.args.to.now in
    let here = v.stands from in
    let there : is_some here ≡ true = sym c.stands.ensures ∙ c.if-not-stands.false in
    let apart : overlap from to ≡ false = sym c.overlap.ensures ∙ c.if-overlap.false in
    let inside : is_collection (v.stands (parent_of to)) ≡ true = ap (λ (p : Place). is_collection (v.stands p)) (sym c.in_ok-parent.ensures) ∙ sym c.is_collection.ensures ∙ c.if-not-is_collection.false in
    let off = apart-below from to c.requires apart in
    let known = node_at st.nodes from in
    let P : List Node → Type 0 = λ nodes. IfSome (node_at nodes from) (λ standing. c.limit_of_carry.result ≡ limit_of_carry nodes from to c.args.moving standing) in
    let is : IsLimit v from to c.args.moving c.limit_of_carry.result known = subst P c.files.ensures c.limit_of_carry.ensures in
    let below : is_some known ≡ true = ap (λ (o : Option Standing). is_some o) (stands-below st from off) ∙ there in
    record { below = off; apart = apart; inside = inside; within = limit-within v from to c.args.moving known c.limit_of_carry.result below is c.in_default.is }

pub returns : goal.returns
returns c =
    let st = c.args.tables.now.state in
    let v = view_in st in
    let from = c.args.from.now in
    let to = c.args.to.now in
    let here = v.stands from in
    let free : is_occupied v to c.args.overwrite ≡ false = sym c.is_occupied.ensures ∙ c.if-is_occupied.false in
    if_ok-each c.carry.result (λ plan. (overwrite : Bool) → is_occupied v to overwrite ≡ false → PlansCarry st from to c.args.moving overwrite plan) (λ plan. PlansCarry st from to c.args.moving c.args.overwrite plan)
    (λ plan known. known c.args.overwrite free) c.carry.ensures
