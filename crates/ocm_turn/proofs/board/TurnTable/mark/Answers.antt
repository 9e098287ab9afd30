use Rattle.std.specs.Prelude.{bit_or}
use Rattle.std.proofs.Common.{rules}
use Rattle.ocm_turn.proofs.RingKeeps.{rings_keep}
use Rattle.ocm_turn.proofs.board.TurnTable.mark.Goals as goal

pub fetch_or-requires : goal.fetch_or-requires
fetch_or-requires g c = (search rules, search rules, rings_keep _ _ _ _ _ (λ n. bit_or n 1) _ _ _ _ _ c.requires.bell.0 c.requires.own.1)
