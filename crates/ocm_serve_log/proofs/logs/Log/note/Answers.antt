use Rattle.std.proofs.Common.{ℕ, Option, ◌++◌, subst}
use Rattle.std.specs.Prelude.{IfSome}
use Rattle.ocm_access_log.specs.Truth.{status_of}
use Rattle.ocm_serve_log.specs.Logs.{Holds, IsMadeOf, line_with}
use Rattle.ocm_serve_log.proofs.Holding.{nothing_more}
use Rattle.ocm_serve_log.proofs.Texts.{line_unread}
use Rattle.ocm_serve_log.proofs.logs.Log.note.Goals as goal

pub returns-in-Some : goal.returns-in-Some
returns-in-Some g c = λ place time ask is lines h.
    subst (λ (s : Option ℕ). Holds g.K.Sink.taken g.K.Sink.faults c.note_read.new.self (lines ++ line_with place time ask s)) c.status_of.ensures.exact (c.note_read.ensures place time ask (subst (λ r. IfSome r (λ made. IsMadeOf place time ask made)) c.in-Some.is is.1) lines h)

pub returns-in-None : goal.returns-in-None
returns-in-None g c = λ place time ask is lines h.
    nothing_more g.K.Sink.taken g.K.Sink.faults c.args.self.now lines (line_with place time ask (status_of c.args.reply.now)) (line_unread place time ask (status_of c.args.reply.now) (is.0 c.in-None.is)) h
