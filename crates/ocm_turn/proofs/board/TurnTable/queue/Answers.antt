use Rattle.std.specs.Prelude.{◌+◌, ◌%◌, ◌^◌}
use Rattle.std.proofs.Common.{rules, arith}
use Rattle.ocm_turn.proofs.RingKeeps.{rings_keep}
use Rattle.ocm_turn.proofs.board.TurnTable.queue.Goals as goal

pub fetch_add-place-requires : goal.fetch_add-place-requires
fetch_add-place-requires g c = (search rules, search rules, rings_keep _ _ _ _ _ (λ n. (n + 1) % 2 ^ 64) _ _ _ _ _ (omega arith) c.requires.own.1)
