use Rattle.ocm_serve_log.proofs.Holding.{ended}
use Rattle.ocm_serve_log.proofs.logs.Log.finish.Goals as goal

pub returns-clause-log : goal.returns-clause-log
returns-clause-log g c = λ lines h. ended _ _ _ _ _ _ lines c.write.ensures.written.1 (c.write.ensures.holds lines h)
