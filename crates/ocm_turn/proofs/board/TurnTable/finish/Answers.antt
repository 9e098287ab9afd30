use Rattle.std.proofs.Common.{rules}
use Rattle.ocm_turn.proofs.FinishKeeps.{finishes_keep}
use Rattle.ocm_turn.proofs.board.TurnTable.finish.Goals as goal

pub fetch_add-requires : goal.fetch_add-requires
fetch_add-requires g c =
    let t = c.requires.turn in (
      search rules,
      search rules,
      finishes_keep _ _ _ _ _ _ _ _ _ _ _ t.0 t.1 c.requires.value (search rules) (search rules),
    )
