use Rattle.std.proofs.Common.{◌∙◌, sym, refl}
use Rattle.ocm_server.specs.Visits.{desk}
use Rattle.ocm_server.proofs.Visiting.{visits_moved}
use Rattle.ocm_server.proofs.workers.serve_worker.Goals as goal

pub returns : goal.returns
returns g c = let a = c.take-taken.ensures.value in let b = c.unwrap-pass.ensures in record {
  worked = record {
    before = c.unwrap-pass.result;
    after = c.serve_door-worker.new.pass;
    had = sym a ∙ b;
    has = refl;
    own = c.serve_door-worker.ensures.own;
    moved = visits_moved g.L.Conn.Conn.sides c.args.config.now c.args.node.now.limit (g.N.Post.delivers c.args.worker.now.post) c.serve_door-worker.ensures.serves.visits
        (desk c.args.worker.now.draw (g.K.Clock.given c.args.worker.now.clock) (g.N.Post.exchanges c.args.worker.now.post) c.unwrap-pass.result) (desk c.serve_door-worker.new.draw (g.K.Clock.given c.serve_door-worker.new.clock) (g.N.Post.exchanges c.serve_door-worker.new.post) c.serve_door-worker.new.pass) c.serve_door-worker.ensures.serves.served;
    serves = c.serve_door-worker.ensures.serves;
    order = c.calls-calls.ensures.stand.1;
    fault = c.serve_door-worker.ensures.fault;
    unfailed = c.serve_door-worker.ensures.unfailed;
    never_falls = c.serve_door-worker.ensures.never_falls;
    post_never_falls = c.serve_door-worker.ensures.post_never_falls;
    same_kind = c.serve_door-worker.ensures.kind;
  };
}
