use Rattle.ocm_serve.proofs.Known.{serves-to}
use Rattle.ocm_serve.proofs.running.run_workers.Goals as goal

pub returns-clause-runs : goal.returns-clause-runs
returns-clause-runs g c = (
  c.serve-served.result.0,
  c.tell_end.ensures.exact,
  serves-to g.D.Disk g.L.Conn.Conn.sides c.args.draw_key _ c.args.plan.now c.args.disk c.deref_mut.result.now c.args.workers.items c.serve-served.result.0 c.deref_mut.ensures.value (record {
    after = c.serve-served.result.1;
    left = c.serve-served.new.workers;
    ran = c.serve-served.ensures.served;
    ended = c.serve-served.ensures.ended;
    fault = c.serve-served.ensures.fault;
    said = c.serve-served.ensures.said;
    counted = c.serve-served.ensures.counted;
    unfailing = c.serve-served.ensures.unfailing;
    unasked = c.serve-served.ensures.unasked;
    unserved = c.serve-served.ensures.unserved;
    kept = c.serve-served.ensures.kept;
  }) c.serve-served.auto.workers,
)
