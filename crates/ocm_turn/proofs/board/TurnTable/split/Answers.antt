use Rattle.std.proofs.Common.{rules}
use Rattle.ocm_turn.proofs.SplitKeeps.{splits_keep}
use Rattle.ocm_turn.proofs.board.TurnTable.split.Goals as goal

pub split_seat-requires : goal.split_seat-requires
split_seat-requires g c = (search rules, search rules, splits_keep _ _ _ _ _ _ _ _ (search rules))
