use Rattle.std.proofs.Common.{List, ℕ, subst}
use Rattle.ocm_base.specs.Outside.{Appends, AppendsPart}
use Rattle.ocm_serve_log.proofs.Holding.{written_all, written_part}
use Rattle.ocm_serve_log.proofs.logs.Log.write.Goals as goal

pub returns-in-Ok-clause-holds : goal.returns-in-Ok-clause-holds
returns-in-Ok-clause-holds g c = λ lines h.
    let log = c.args.self.now in
    let all = subst (λ (x : List ℕ). Appends (g.K.Sink.taken log.sink) (g.K.Sink.taken c.write_all.new.sink) x) c.as_slice.ensures.value c.in-Ok.ensures.ok in
    written_all g.K.Sink.taken g.K.Sink.faults log c.clear.new.self c.write_all.new.sink lines all c.write_all.ensures.never_falls c.clear.ensures.sink c.clear.ensures.gathered c.clear.ensures.left_out c.clear.ensures.memory h

pub returns-in-Err-clause-holds : goal.returns-in-Err-clause-holds
returns-in-Err-clause-holds g c = λ lines h.
    let log = c.args.self.now in
    let lost = c.lose.ensures in
    let part = subst (λ (x : List ℕ). AppendsPart (g.K.Sink.taken log.sink) (g.K.Sink.taken c.write_all.new.sink) x) c.as_slice.ensures.value c.in-Err.ensures.err in
    written_part g.K.Sink.taken g.K.Sink.faults log c.lose.new.self c.write_all.new.sink lines part c.in-Err.ensures.rose lost.sink lost.gathered lost.left_out lost.memory h
