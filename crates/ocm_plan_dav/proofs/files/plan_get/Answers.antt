use Rattle.ocm_entry.specs.declared.asks.Method.TheVariants as methods
use Rattle.ocm_entry.specs.declared.refusals.Why.TheVariants.{NotAllowed, NotFound}
use Rattle.ocm_entry.specs.declared.replies.Reply.TheVariants as replies
use Rattle.ocm_rules.specs.State.{view_in}
use Rattle.std.proofs.Common.{refl, ◌∙◌, sym, ap}
use Rattle.ocm_entry.specs.declared.rows.Standing.TheVariants.{File}
use Rattle.ocm_plan_dav.proofs.Rows.{get-none, get-collection, get-file}
use Rattle.ocm_plan_dav.proofs.Methods.{refuses, tells}
use Rattle.ocm_plan_dav.proofs.files.plan_get.Goals as goal

pub returns-in-None-clause-get : goal.returns-in-None-clause-get
returns-in-None-clause-get c =
    let st = c.args.tables.now.state in
    λ path body. refuses st methods.Get c.args.place.now path body NotFound c.refused.result (get-none c.standing_at.result ((view_in st).stands c.args.place.now) c.in-None.is c.standing_at.ensures) c.refused.ensures.plans

pub returns-in-Some-Collection-clause-get : goal.returns-in-Some-Collection-clause-get
returns-in-Some-Collection-clause-get c =
    let st = c.args.tables.now.state in
    let at = c.in-Some-Collection in
    λ path body. refuses st methods.Get c.args.place.now path body NotAllowed c.refused-in-Some-Collection.result
    (get-collection c.standing_at.result at.field-0 ((view_in st).stands c.args.place.now) at.is at.field-0-is c.standing_at.ensures) c.refused-in-Some-Collection.ensures.plans

pub returns-in_ok-body-in-Some-File-clause-get : goal.returns-in_ok-body-in-Some-File-clause-get
returns-in_ok-body-in-Some-File-clause-get c =
    let st = c.args.tables.now.state in
    let at = c.in-Some-File in
    let copied = c.in_ok-body-in-Some-File in
    λ path body. tells st methods.Get c.args.place.now path body (replies.File copied.body) c.only.result
    (get-file c.standing_at.result at.field-0 ((view_in st).stands c.args.place.now) copied.body at.is (at.field-0-is ∙ ap File (sym copied.ensures)) c.standing_at.ensures) (λ secret. refl) c.only.ensures.plans

pub returns-in-None-clause-head : goal.returns-in-None-clause-head
returns-in-None-clause-head c =
    let st = c.args.tables.now.state in
    λ path body. refuses st methods.Head c.args.place.now path body NotFound c.refused.result (get-none c.standing_at.result ((view_in st).stands c.args.place.now) c.in-None.is c.standing_at.ensures) c.refused.ensures.plans

pub returns-in-Some-Collection-clause-head : goal.returns-in-Some-Collection-clause-head
returns-in-Some-Collection-clause-head c =
    let st = c.args.tables.now.state in
    let at = c.in-Some-Collection in
    λ path body. refuses st methods.Head c.args.place.now path body NotAllowed c.refused-in-Some-Collection.result
    (get-collection c.standing_at.result at.field-0 ((view_in st).stands c.args.place.now) at.is at.field-0-is c.standing_at.ensures) c.refused-in-Some-Collection.ensures.plans

pub returns-in_ok-body-in-Some-File-clause-head : goal.returns-in_ok-body-in-Some-File-clause-head
returns-in_ok-body-in-Some-File-clause-head c =
    let st = c.args.tables.now.state in
    let at = c.in-Some-File in
    let copied = c.in_ok-body-in-Some-File in
    λ path body. tells st methods.Head c.args.place.now path body (replies.File copied.body) c.only.result
    (get-file c.standing_at.result at.field-0 ((view_in st).stands c.args.place.now) copied.body at.is (at.field-0-is ∙ ap File (sym copied.ensures)) c.standing_at.ensures) (λ secret. refl) c.only.ensures.plans
