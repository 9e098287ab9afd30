use Rattle.ocm_base.specs.Outside.{flow}
use Rattle.ocm_http.proofs.UnderWay.{under_start}
use Rattle.ocm_http.proofs.reading.read_message.Goals as goal

pub returns-clause-read : goal.returns-clause-read
returns-clause-read g c =
    c.read_on.ensures.read c.args.window.now (rw (c.start-stage.ensures, c.requires) (under_start c.args.rules (flow (g.S.Source.left c.args.source.now) (g.S.Source.received c.args.source.now)) c.args.window.now))
