use Rattle.std.proofs.Common.{List, ℕ, Option, ◌++◌, refl, sym, subst}
use Rattle.ocm_access_log.specs.declared.lines.LogLine.{LogLine}
use Rattle.ocm_serve_log.specs.Logs.{Holds, line_with}
use Rattle.ocm_serve_log.proofs.Holding.{nothing_more}
use Rattle.ocm_serve_log.proofs.Texts.{line_none, line_read}
use Rattle.ocm_serve_log.proofs.logs.Log.note_read.Goals as goal

pub returns-in-Some : goal.returns-in-Some
returns-in-Some g c = λ place time ask is lines h.
    subst (λ (s : Option ℕ). Holds g.K.Sink.taken g.K.Sink.faults c.put.new.self (lines ++ line_with place time ask s)) (sym c.in-Some.is)
    (subst (λ (l : List LogLine). Holds g.K.Sink.taken g.K.Sink.faults c.put.new.self (lines ++ l)) (sym (line_read place time ask c.in-Some.status is.0))
    (c.put.ensures (record { place = place; moment = time; ask = ask; status = c.in-Some.status }) refl is lines h))

pub returns-in-None : goal.returns-in-None
returns-in-None g c = λ place time ask is lines h.
    nothing_more g.K.Sink.taken g.K.Sink.faults c.args.self.now lines (line_with place time ask c.args.status) (line_none place time ask c.args.status c.in-None.is) h
