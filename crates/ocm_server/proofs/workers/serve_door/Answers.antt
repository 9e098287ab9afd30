use Rattle.std.proofs.Common.{arith, refl, ◌≡◌, ◌∙◌}
use Rattle.std.specs.Prelude.{option_map}
use Rattle.ocm_server.specs.Doors.{given, over, IsOut}
use Rattle.ocm_server.specs.Visits.{desk}
use Rattle.ocm_server.proofs.Visiting.{serves_nothing, serves_visit, serves_end, serves_fault, comes_as, ok_of, some_of, none_of}
use Rattle.ocm_server.proofs.workers.serve_door.Goals as goal

pub loop-init : goal.loop-init
loop-init g c = record {
  own = c.requires.own;
  serves = serves_nothing g.L.Conn.Conn.sides c.args.config.now c.args.node.now.limit (g.N.Post.delivers c.args.post.now) (g.L.Door.told c.args.door.now) (desk c.args.draw.now (g.K.Clock.given c.args.clock.now) (g.N.Post.exchanges c.args.post.now) c.args.pass.now);
  unfailed = refl;
  post_never_falls = omega arith;
  kind = refl;
}

pub serve_visit-requires-clause-out : goal.serve_visit-requires-clause-out
serve_visit-requires-clause-out g c = some_of (λ conn. IsOut (g.L.Door.told c.next-in-loop.new.self)) c.next-in-loop.result c.in-Ok-Some.field-0 c.in-Ok-Some.conn c.next-in-loop.ensures.out c.in-Ok-Some.is c.in-Ok-Some.field-0-is

pub loop-preserved : goal.loop-preserved
loop-preserved g c = record {
  own = c.serve_visit.ensures.own;
  serves = serves_visit g.L.Conn.Conn.sides c.args.config.now c.args.node.now.limit (g.N.Post.delivers c.args.post.now) (g.L.Door.told c.args.door.now) (g.L.Door.told c.loop.door) (g.L.Door.told c.next-in-loop.new.self) (g.L.Door.told c.serve_visit.new.door) c.in-Ok-Some.conn
      (desk c.args.draw.now (g.K.Clock.given c.args.clock.now) (g.N.Post.exchanges c.args.post.now) c.args.pass.now) (desk c.loop.draw (g.K.Clock.given c.loop.clock) (g.N.Post.exchanges c.loop.post) c.loop.pass) (desk c.serve_visit.new.draw (g.K.Clock.given c.serve_visit.new.clock) (g.N.Post.exchanges c.serve_visit.new.post) c.serve_visit.new.pass) c.loop.invariant.serves
      (some_of (λ conn. (g.L.Door.told c.next-in-loop.new.self) ≡ option_map (given conn) (g.L.Door.told c.loop.door)) c.next-in-loop.result c.in-Ok-Some.field-0 c.in-Ok-Some.conn c.next-in-loop.ensures.given c.in-Ok-Some.is c.in-Ok-Some.field-0-is) (comes_as g.L.Conn.Conn.sides c.args.config.now c.args.node.now.limit _ _ c.in-Ok-Some.conn _ _ _ _ c.loop.invariant.kind c.serve_visit.ensures.comes);
  unfailed = c.serve_visit.ensures.faults ∙ (ok_of ((g.L.Door.faults c.next-in-loop.new.self) ≡ (g.L.Door.faults c.loop.door)) c.next-in-loop.result c.in-Ok-Some.field-0 c.next-in-loop.ensures.kept c.in-Ok-Some.is ∙ c.loop.invariant.unfailed);
  post_never_falls = let low = c.loop.invariant.post_never_falls in let more = c.serve_visit.ensures.post_never_falls in omega (arith, low, more);
  kind = c.serve_visit.ensures.kind ∙ c.loop.invariant.kind;
}

pub returns-in-Ok-None-clause-serves : goal.returns-in-Ok-None-clause-serves
returns-in-Ok-None-clause-serves g c =
    serves_end g.L.Conn.Conn.sides c.args.config.now c.args.node.now.limit (g.N.Post.delivers c.args.post.now) (g.L.Door.told c.args.door.now) (g.L.Door.told c.loop.door) (g.L.Door.told c.next-in-loop.new.self) (desk c.args.draw.now (g.K.Clock.given c.args.clock.now) (g.N.Post.exchanges c.args.post.now) c.args.pass.now) (desk c.loop.draw (g.K.Clock.given c.loop.clock) (g.N.Post.exchanges c.loop.post) c.loop.pass) c.loop.invariant.serves
    (none_of ((g.L.Door.told c.next-in-loop.new.self) ≡ option_map over (g.L.Door.told c.loop.door)) c.next-in-loop.result c.in-Ok-None.field-0 c.next-in-loop.ensures.over c.in-Ok-None.is c.in-Ok-None.field-0-is)

pub returns-in-Err-clause-serves : goal.returns-in-Err-clause-serves
returns-in-Err-clause-serves g c =
    serves_fault g.L.Conn.Conn.sides c.args.config.now c.args.node.now.limit (g.N.Post.delivers c.args.post.now) (g.L.Door.told c.args.door.now) (g.L.Door.told c.loop.door) (g.L.Door.told c.next-in-loop.new.self) (desk c.args.draw.now (g.K.Clock.given c.args.clock.now) (g.N.Post.exchanges c.args.post.now) c.args.pass.now) (desk c.loop.draw (g.K.Clock.given c.loop.clock) (g.N.Post.exchanges c.loop.post) c.loop.pass) c.loop.invariant.serves
    c.in-Err.ensures.err

pub returns-in-Ok-None-clause-unfailed : goal.returns-in-Ok-None-clause-unfailed
returns-in-Ok-None-clause-unfailed g c = λ _. ok_of ((g.L.Door.faults c.next-in-loop.new.self) ≡ (g.L.Door.faults c.loop.door)) c.next-in-loop.result c.in-Ok-None.field-0 c.next-in-loop.ensures.kept c.in-Ok-None.is ∙ c.loop.invariant.unfailed
