use Rattle.ocm_base.specs.Outside.{flow}
use Rattle.ocm_http.proofs.Behind.{goes_behind, given_behind}
use Rattle.ocm_http.proofs.reading.read_behind.Goals as goal

pub returns-in-All-clause-read : goal.returns-in-All-clause-read
returns-in-All-clause-read g c =
    given_behind c.args.place (flow (g.S.Source.left c.args.source.now) (g.S.Source.received c.args.source.now)) c.args.window.now c.args.head c.into_parts-head.result c.past-first.result c.past-next.result c.in-All.message c.requires c.into_parts-head.ensures.read
    c.into_parts-head.ensures.parts c.past-first.ensures c.past-next.ensures c.in-All.ensures

pub returns-in-On-clause-read : goal.returns-in-On-clause-read
returns-in-On-clause-read g c =
    c.read_on.ensures.read c.args.head.text
    (goes_behind c.args.place (flow (g.S.Source.left c.args.source.now) (g.S.Source.received c.args.source.now)) c.args.window.now c.args.head c.into_parts-head.result c.past-first.result c.past-next.result c.in-On.stage c.requires c.into_parts-head.ensures.read
    c.into_parts-head.ensures.parts c.past-first.ensures c.past-next.ensures c.in-On.ensures)
