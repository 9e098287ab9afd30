use Rattle.std.proofs.Common.{◌∙◌, sym}
use Rattle.ocm_serve_options.specs.Plans.{texts}
use Rattle.ocm_serve_options.proofs.Planning.{orders_none, orders_some, orders_refused_by}
use Rattle.ocm_serve_options.proofs.reading.read_plan.Goals as goal

pub returns-then-not-asks_serve : goal.returns-then-not-asks_serve
returns-then-not-asks_serve c = orders_none (texts c.args.words.now) (sym c.asks_serve.ensures ∙ c.if-not-asks_serve.true)

pub returns-in-Ok : goal.returns-in-Ok
returns-in-Ok c = orders_some (texts c.args.words.now) _ c.orders_by_options.result (sym c.asks_serve.ensures ∙ c.if-not-asks_serve.false) c.in-Ok.ensures.kinds c.in-Ok.ensures.ok c.orders_by_options.ensures

pub returns-in-Err : goal.returns-in-Err
returns-in-Err c = orders_refused_by (texts c.args.words.now) c.in-Err.error c.fault_by.result c.in-Err.ensures.kinds c.fault_by.ensures.usage
