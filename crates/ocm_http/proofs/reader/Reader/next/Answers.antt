use Rattle.ocm_base.specs.Outside.{flow}
use Rattle.ocm_http.specs.Readers.{ReaderState}
use Rattle.ocm_http.proofs.UnderWay.{next_told}
use Rattle.ocm_http.proofs.reader.Reader.next.Goals as goal

pub returns-clause-message : goal.returns-clause-message
returns-clause-message g c =
    let old : ReaderState = record { kind = c.self.inside.kind; max = c.self.inside.max; place = c.self.inside.place; held = c.self.inside.window; failed = c.self.inside.failed; gone = c.self.inside.gone } in
    (next_told old c.args.self.now c.settle.new.self c.read_message-read.new.window (flow (g.S.Source.left c.args.source.now) (g.S.Source.received c.args.source.now)) (flow (g.S.Source.left c.read_message-read.new.source) (g.S.Source.received c.read_message-read.new.source)) c.read_message-read.new.gone c.read_message-read.result c.settle.result c.self.view_is
    c.read_message-read.ensures.within c.read_message-read.ensures.read c.settle.ensures.settles c.settle.ensures.new).message

pub returns-clause-fault : goal.returns-clause-fault
returns-clause-fault g c =
    let old : ReaderState = record { kind = c.self.inside.kind; max = c.self.inside.max; place = c.self.inside.place; held = c.self.inside.window; failed = c.self.inside.failed; gone = c.self.inside.gone } in
    (next_told old c.args.self.now c.settle.new.self c.read_message-read.new.window (flow (g.S.Source.left c.args.source.now) (g.S.Source.received c.args.source.now)) (flow (g.S.Source.left c.read_message-read.new.source) (g.S.Source.received c.read_message-read.new.source)) c.read_message-read.new.gone c.read_message-read.result c.settle.result c.self.view_is
    c.read_message-read.ensures.within c.read_message-read.ensures.read c.settle.ensures.settles c.settle.ensures.new).fault

pub returns-clause-taken : goal.returns-clause-taken
returns-clause-taken g c =
    let old : ReaderState = record { kind = c.self.inside.kind; max = c.self.inside.max; place = c.self.inside.place; held = c.self.inside.window; failed = c.self.inside.failed; gone = c.self.inside.gone } in
    (next_told old c.args.self.now c.settle.new.self c.read_message-read.new.window (flow (g.S.Source.left c.args.source.now) (g.S.Source.received c.args.source.now)) (flow (g.S.Source.left c.read_message-read.new.source) (g.S.Source.received c.read_message-read.new.source)) c.read_message-read.new.gone c.read_message-read.result c.settle.result c.self.view_is
    c.read_message-read.ensures.within c.read_message-read.ensures.read c.settle.ensures.settles c.settle.ensures.new).taken
