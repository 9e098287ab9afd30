use Rattle.std.proofs.Common.{◌≡◌}
use Rattle.ocm_turn.proofs.board.TurnTable.watch_turns.Given as goal

-- nothing has changed
abbrev pub invariant-loop : goal.invariant-loop
invariant-loop g l = (l.seat.table_id ≡ l.initial.seat.table_id) × (l.seat.me ≡ l.initial.seat.me)
