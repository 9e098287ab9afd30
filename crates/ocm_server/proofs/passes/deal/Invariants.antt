use Rattle.std.proofs.Common.{◌≡◌, ◌+◌, Some}
use Rattle.ocm_turn.specs.Passes.{BelongsTo, all_parts}
use Rattle.ocm_server.specs.Objects.{beginner, draw_at}
use Rattle.ocm_server.proofs.Dealing.{ChangedBelow}
use Rattle.ocm_server.proofs.passes.deal.Given as goal

-- the workers so far have their passes
abbrev pub invariant-loop-k : goal.invariant-loop-k
invariant-loop-k g l = record {
  own : BelongsTo l.node l.pass;
  same : l.pass ≡ record l.initial.pass { parts = l.pass.parts };
  parts : l.pass.parts + l.k ≡ all_parts;
  dealt : ChangedBelow (λ i w. record w { draw = draw_at l.draw_key i; pass = Some (beginner l.initial.pass) }) l.initial.workers l.workers l.k;
}
