use Rattle.std.proofs.Common.{List, ℕ, ◌∷◌, ap, sym, subst}
use Rattle.std.specs.List.{AllByRecursion}
use Rattle.ocm_access_log.specs.Written.{IsLoggable}
use Rattle.ocm_access_log.specs.declared.lines.LogLine.{LogLine}
use Rattle.ocm_serve_store.specs.Following.{store_of}
use Rattle.ocm_serve_store.specs.declared.followed.Origin.{Origin}
use Rattle.ocm_store.specs.Stores.{host_of}
use Rattle.ocm_serve_log.specs.Logs.{Holds, lines_since}
use Rattle.ocm_serve_log.proofs.Told.{lines_more, loggable_more}
use Rattle.ocm_serve_log.proofs.logged.LoggedStore.answer.Goals as goal

pub returns-clause-stands : goal.returns-clause-stands
returns-clause-stands g c = λ k h s legal.
    let ask = c.args.ask in
    let reply = c.act-reply.result in
    let place = c.kept-place.result in
    let time = c.moment-moment.result in
    let host = host_of (store_of c.args.self.now.followed) in
    let at = c.kept-place.ensures k h s.0.0 in
    let now = c.moment-moment.ensures k h s.0.0 in
    let noted = c.note.ensures place time ask (c.text_of_read-read.ensures.other, c.text_of_read-read.ensures.text) _ s.1 in
    let written = subst (λ (l : List LogLine). Holds g.K.Sink.taken g.K.Sink.faults c.pass.new.self l) (sym (lines_more host k h ask reply place time at now)) (c.pass.ensures.holds _ noted) in
    let more = loggable_more host k h ask reply place time at now c.text_of_read-read.ensures.loggable s.2 in
    let logged = subst (λ (h2 : List ℕ). Holds g.K.Sink.taken g.K.Sink.faults c.pass.new.self (lines_since h2 k (record { ask = ask; reply = reply } ∷ h)) × AllByRecursion IsLoggable (lines_since h2 k (record { ask = ask; reply = reply } ∷ h)))
    (ap (λ (o : Origin g.row.D.Denot g.D.Disk). o.terms.host) (sym c.act-reply.ensures.terms)) (written, more) in
    (c.act-reply.ensures.stands k h s.0 legal, logged.0, logged.1)

pub returns-clause-terms : goal.returns-clause-terms
returns-clause-terms g c = c.act-reply.ensures.terms

pub returns-clause-legal : goal.returns-clause-legal
returns-clause-legal g c = c.act-reply.ensures.legal
