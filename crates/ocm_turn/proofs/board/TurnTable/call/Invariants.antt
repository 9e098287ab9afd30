use Rattle.std.proofs.Common.{◌≡◌, []}
use Rattle.ocm_turn.specs.Rule.{IsIdle}
use Rattle.ocm_turn.specs.Steps.{settled}
use Rattle.ocm_turn.proofs.board.TurnTable.call.Given as goal

-- the call has not been made yet
abbrev pub invariant-loop : goal.invariant-loop
invariant-loop g l =
    (l.seat.table_id ≡ l.initial.seat.table_id) × (l.seat.me.1 ≡ []) × IsIdle l.seat.me.0 × (settled l.seat.me.0 ≡ settled l.initial.seat.me.0) × (l.ask ≡ l.initial.ask)
