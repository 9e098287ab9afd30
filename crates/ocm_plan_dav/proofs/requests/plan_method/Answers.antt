use Rattle.std.proofs.Common.{sym, subst}
use Rattle.ocm_path.specs.Paths.{Segments}
use Rattle.ocm_entry.specs.declared.asks.Method.{Method}
use Rattle.ocm_entry.specs.declared.asks.Method.TheVariants as methods
use Rattle.ocm_plan_dav.specs.Requests.{PlansBodiless, PlansMethod}
use Rattle.ocm_plan_dav.proofs.Methods.{for_method}
use Rattle.ocm_plan_dav.proofs.requests.plan_method.Goals as goal

pub returns-in-Get : goal.returns-in-Get
returns-in-Get c =
    let st = c.args.tables.now.state in
    for_method st c.args.method methods.Get c.args.place c.args.path.now c.args.body.now c.plan_get.result (λ plan. (path : Segments) → PlansBodiless st methods.Get c.args.place path plan) c.in-Get.is (λ plan known. known c.args.path.now c.args.body.now) c.plan_get.ensures.get

pub returns-in-Head : goal.returns-in-Head
returns-in-Head c =
    let st = c.args.tables.now.state in
    for_method st c.args.method methods.Head c.args.place c.args.path.now c.args.body.now c.plan_get-in-Head.result (λ plan. (path : Segments) → PlansBodiless st methods.Head c.args.place path plan) c.in-Head.is (λ plan known. known c.args.path.now c.args.body.now) c.plan_get-in-Head.ensures.head

pub returns-in-List0 : goal.returns-in-List0
returns-in-List0 c =
    let st = c.args.tables.now.state in
    for_method st c.args.method methods.List0 c.args.place c.args.path.now c.args.body.now c.plan_item.result (λ plan. PlansBodiless st methods.List0 c.args.place c.args.path.now plan) c.in-List0.is (λ plan known. known c.args.body.now) c.plan_item.ensures

pub returns-in-List1 : goal.returns-in-List1
returns-in-List1 c =
    let st = c.args.tables.now.state in
    for_method st c.args.method methods.List1 c.args.place c.args.path.now c.args.body.now c.plan_items.result (λ plan. PlansBodiless st methods.List1 c.args.place c.args.path.now plan) c.in-List1.is (λ plan known. known c.args.body.now) c.plan_items.ensures

pub returns-in-Put : goal.returns-in-Put
returns-in-Put c =
    let st = c.args.tables.now.state in
    for_method st c.args.method methods.Put c.args.place c.args.path.now c.args.body.now c.plan_put.result (λ plan. (path : Segments) → PlansMethod st methods.Put c.args.place path c.args.body.now plan) c.in-Put.is (λ plan known. known c.args.path.now) c.plan_put.ensures

pub returns-in-Mkcol : goal.returns-in-Mkcol
returns-in-Mkcol c =
    let st = c.args.tables.now.state in
    for_method st c.args.method methods.Mkcol c.args.place c.args.path.now c.args.body.now c.plan_mkcol.result (λ plan. (path : Segments) → PlansMethod st methods.Mkcol c.args.place path c.args.body.now plan) c.in-Mkcol.is (λ plan known. known c.args.path.now) c.plan_mkcol.ensures

pub returns-in-Delete : goal.returns-in-Delete
returns-in-Delete c =
    let P : Method → Type 0 = λ m. PlansMethod c.args.tables.now.state m c.args.place c.args.path.now c.args.body.now c.plan_delete.result in
    subst P (sym c.in-Delete.is) (c.plan_delete.ensures c.args.body.now)
