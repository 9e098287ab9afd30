use Rattle.std.proofs.Common.{◌≡◌, ◌++◌}
use Rattle.ocm_drill.specs.Script.{drawn_events}
use Rattle.ocm_drill.proofs.federation.Federation.add_drawn.Given as goal

abbrev pub invariant-loop-j : goal.invariant-loop-j
invariant-loop-j l = record {
  so_far : l.made ≡ l.initial.made ++ (drawn_events l.events l.j l.number).0;
  state : l.drawing ≡ (drawn_events l.events l.j l.number).1;
}
