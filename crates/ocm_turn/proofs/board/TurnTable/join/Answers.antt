use Rattle.std.proofs.Common.{rules}
use Rattle.ocm_turn.proofs.JoinKeeps.{joins_keep}
use Rattle.ocm_turn.proofs.CheckKeeps.{checks_keep}
use Rattle.ocm_turn.proofs.board.TurnTable.join.Goals as goal

pub join_seat-requires : goal.join_seat-requires
join_seat-requires g c = (search rules, search rules, search rules, search rules, joins_keep _ _ _ _ _ _ _ _ _ _ c.requires.own.1 c.requires.other.1)

pub load-requires : goal.load-requires
load-requires g c = (search rules, search rules, checks_keep _ _ _ _ _ _ _ _ _ (search rules))
