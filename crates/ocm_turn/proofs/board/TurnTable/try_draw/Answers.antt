use Rattle.std.proofs.Common.{rules}
use Rattle.ocm_turn.proofs.DrawKeeps.{draws_keep}
use Rattle.ocm_turn.proofs.board.TurnTable.try_draw.Goals as goal

pub compare_exchange-found-requires : goal.compare_exchange-found-requires
compare_exchange-found-requires g c = (search rules, search rules, draws_keep _ _ _ _ _ _ _ _ _ _ (search rules) (search rules) (search rules) (search rules))
