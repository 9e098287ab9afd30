use Rattle.std.specs.Prelude.{◌+◌, ◌%◌, ◌^◌}
use Rattle.std.proofs.Common.{rules}
use Rattle.ocm_turn.proofs.RingKeeps.{rings_keep}
use Rattle.ocm_turn.proofs.board.TurnTable.unmark.Goals as goal

pub fetch_add-requires : goal.fetch_add-requires
fetch_add-requires g c = (search rules, search rules, rings_keep _ _ _ _ _ (λ n. (n + 1) % 2 ^ 64) _ _ _ _ _ c.requires.bell.0 c.requires.own.1)
