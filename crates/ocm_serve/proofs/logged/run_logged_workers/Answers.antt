use Rattle.std.proofs.Common.{◌≡◌, [], sym, subst}
use Rattle.std.specs.Prelude.{IfSome}
use Rattle.ocm_serve.proofs.Known.{logs-to}
use Rattle.ocm_serve.proofs.logged.run_logged_workers.Goals as goal

pub returns-clause-runs : goal.returns-clause-runs
returns-clause-runs g c = (
  c.serve_logged-ran.result.served,
  c.tell_end.ensures.exact,
  logs-to g.D.Disk g.L.Conn.Conn.sides c.args.draw_key _ c.args.plan.now c.args.disk c.deref_mut.result.now c.args.workers.items c.serve_logged-ran.result.served c.deref_mut.ensures.value (record {
    after = c.serve_logged-ran.result.disk;
    left = c.serve_logged-ran.new.workers;
    ran = λ calls own has. (c.serve_logged-ran.ensures.served calls own has).0;
    ended = c.serve_logged-ran.ensures.ended;
    fault = c.serve_logged-ran.ensures.fault;
    said = c.serve_logged-ran.ensures.said;
    counted = c.serve_logged-ran.ensures.counted;
    unfailing = c.serve_logged-ran.ensures.unfailing;
    unasked = c.serve_logged-ran.ensures.unasked;
    unserved = c.serve_logged-ran.ensures.unserved;
    kept = c.serve_logged-ran.ensures.kept;
  }) c.serve_logged-ran.auto.workers
      g.K.Sink.taken g.K.Sink.faults c.serve_logged-ran.result.sink c.serve_logged-ran.result.left_out c.serve_logged-ran.result.out_of_memory
      (λ calls own has. (c.serve_logged-ran.ensures.served calls own has).1)
      (λ unserved. let same = c.serve_logged-ran.ensures.unlogged unserved in
      (subst (λ s. IfSome (g.K.Sink.taken s) (λ bytes. bytes ≡ [])) (sym same.0) c.requires.fresh, same.1)),
)
