use Rattle.std.proofs.Common.{List, ℕ, ◌∷◌, ◌++◌, ap, sym, subst}
use Rattle.std.specs.List.{AllByRecursion}
use Rattle.ocm_access_log.specs.Written.{IsLoggable}
use Rattle.ocm_access_log.specs.declared.lines.LogLine.{LogLine}
use Rattle.ocm_serve_store.specs.Following.{store_of}
use Rattle.ocm_serve_store.specs.declared.followed.Origin.{Origin}
use Rattle.ocm_serve_store.proofs.Answering.{came-since, legal-since, origin-stays, stands-since}
use Rattle.ocm_store.specs.Stores.{host_of}
use Rattle.ocm_serve_log.specs.Logs.{Holds, lines_since}
use Rattle.ocm_serve_log.proofs.Changing.{no-line, not-read}
use Rattle.ocm_serve_log.proofs.logged.LoggedStore.finish.Goals as goal

pub returns-clause-terms : goal.returns-clause-terms
returns-clause-terms g c = λ ask is. origin-stays g.D.Disk c.args.self.now.followed c.finish-reply.new.self ask c.finish-reply.result (c.finish-reply.ensures.acts ask is) c.finish-reply.ensures.born

pub returns-clause-ended : goal.returns-clause-ended
returns-clause-ended g c = λ ask is k h s legal.
    let old = c.args.self.now.followed in
    let new = c.finish-reply.new.self in
    let reply = c.finish-reply.result in
    let acts = c.finish-reply.ensures.acts ask is in
    let born = c.finish-reply.ensures.born in
    let host = host_of (store_of old) in
    let same = no-line host k h ask reply (not-read host (h ++ k) ask (c.finish-reply.ensures.changes ask is k h (record { stands = s.0.0; legal = legal }))) in
    let lines = subst (λ (l : List LogLine). Holds g.K.Sink.taken g.K.Sink.faults c.pass.new.self l × AllByRecursion IsLoggable l) (sym same) (c.pass.ensures.holds _ s.1, s.2) in
    let logged = subst (λ (h2 : List ℕ). Holds g.K.Sink.taken g.K.Sink.faults c.pass.new.self (lines_since h2 k (record { ask = ask; reply = reply } ∷ h)) × AllByRecursion IsLoggable (lines_since h2 k (record { ask = ask; reply = reply } ∷ h)))
    (ap (λ (o : Origin g.row.D.Denot g.D.Disk). o.terms.host) (sym (origin-stays g.D.Disk old new ask reply acts born))) lines in
    ((stands-since g.D.Disk old new ask reply acts born k h s.0 legal, logged.0, logged.1), legal-since g.D.Disk old new ask reply acts born k h s.0 legal, came-since g.D.Disk old new ask reply acts born k h)
