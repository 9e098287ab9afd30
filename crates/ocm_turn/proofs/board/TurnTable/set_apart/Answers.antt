use Rattle.std.proofs.Common.{rules}
use Rattle.ocm_turn.proofs.PassKeeps.{sets_apart_keep}
use Rattle.ocm_turn.proofs.board.TurnTable.set_apart.Goals as goal

pub fetch_add-requires : goal.fetch_add-requires
fetch_add-requires g c = let t = c.requires.turn in (search rules, search rules, sets_apart_keep _ _ _ _ _ _ _ _ _ _ t.0 t.1 t.2 c.requires.value (search rules))
