use Rattle.std.proofs.Common.{refl}
use Rattle.ocm_server.specs.Visits.{desk}
use Rattle.ocm_server.proofs.workers.serve_visit.Goals as goal

pub returns-clause-comes : goal.returns-clause-comes
returns-clause-comes g c = record {
  back = c.serve_conn-ended.new.conn;
  ended = c.serve_conn-ended.result;
  pumped = c.round_behind-pumped.result;
  came = c.done.ensures.back;
  visited = record {
    middle = desk c.serve_conn-ended.new.draw (g.K.Clock.given c.serve_conn-ended.new.clock) (g.N.Post.exchanges c.args.post.now) c.serve_conn-ended.new.pass;
    post_waits = refl;
    talked = c.serve_conn-ended.ensures.talk;
    draw_waits = refl;
    clock_waits = refl;
    behind = c.round_behind-pumped.ensures.behind;
  };
}
