use Rattle.ocm_base.specs.Outside.{flow}
use Rattle.ocm_http.specs.Readers.{ReaderState}
use Rattle.ocm_http.proofs.UnderWay.{behind_told}
use Rattle.ocm_http.proofs.reader.Reader.next_behind.Goals as goal

pub returns-clause-read : goal.returns-clause-read
returns-clause-read g c =
    let old : ReaderState = record { kind = c.self.inside.kind; max = c.self.inside.max; place = c.self.inside.place; held = c.self.inside.window; failed = c.self.inside.failed; gone = c.self.inside.gone } in
    behind_told old c.args.self.now c.settle.new.self c.args.head.text c.read_behind-read.new.window (flow (g.S.Source.left c.args.source.now) (g.S.Source.received c.args.source.now)) (flow (g.S.Source.left c.read_behind-read.new.source) (g.S.Source.received c.read_behind-read.new.source)) c.read_behind-read.new.gone c.read_behind-read.result c.settle.result c.self.view_is
    c.requires.kind c.requires.max c.read_behind-read.ensures.within c.read_behind-read.ensures.read c.settle.ensures.settles c.settle.ensures.new
