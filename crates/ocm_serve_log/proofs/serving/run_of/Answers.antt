use Rattle.std.proofs.Common.{sym, subst}
use Rattle.ocm_serve_log.specs.Logs.{Holds}
use Rattle.ocm_serve_log.specs.declared.logs.Log.{Log}
use Rattle.ocm_serve_log.proofs.serving.run_of.Goals as goal

pub returns-clause-log : goal.returns-clause-log
returns-clause-log g c = λ lines h.
    c.finish-sink.ensures.log lines (subst (λ (l : Log g.row.K.Denot). Holds g.K.Sink.taken g.K.Sink.faults l lines) (sym c.into_parts-followed.ensures.1) h)
