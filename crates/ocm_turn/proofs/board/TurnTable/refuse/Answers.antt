use Rattle.std.proofs.Common.{rules}
use Rattle.ocm_turn.proofs.PassKeeps.{refuses_keep}
use Rattle.ocm_turn.proofs.board.TurnTable.refuse.Goals as goal

pub fetch_add-requires : goal.fetch_add-requires
fetch_add-requires g c = let t = c.requires.turn in (search rules, search rules, refuses_keep _ _ _ _ _ _ _ _ _ t.0 t.1 t.2 c.requires.value)
