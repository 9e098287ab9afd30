use Rattle.std.proofs.Common.{◌≡◌, ◌≤◌, false}
use Rattle.ocm_turn.specs.Passes.{BelongsTo}
use Rattle.ocm_server.specs.Visits.{Serves, desk}
use Rattle.ocm_server.proofs.workers.serve_door.Given as goal

-- the visits so far, in which the door had no fault
abbrev pub invariant-loop : goal.invariant-loop
invariant-loop g l = record {
  own : BelongsTo l.node l.pass;
  serves : Serves g.L.Conn.Conn.sides l.config l.node.limit (g.N.Post.delivers l.initial.post) (g.L.Door.told l.initial.door) (g.L.Door.told l.door) false
      (desk l.initial.draw (g.K.Clock.given l.initial.clock) (g.N.Post.exchanges l.initial.post) l.initial.pass) (desk l.draw (g.K.Clock.given l.clock) (g.N.Post.exchanges l.post) l.pass);
  unfailed : g.L.Door.faults l.door ≡ g.L.Door.faults l.initial.door;
  post_never_falls : g.N.Post.faults l.initial.post ≤ g.N.Post.faults l.post;
  kind : g.N.Post.delivers l.post ≡ g.N.Post.delivers l.initial.post;
}
