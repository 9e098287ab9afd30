use Rattle.std.proofs.Common.{rules}
use Rattle.ocm_turn.proofs.NameKeeps.{names_keep}
use Rattle.ocm_turn.proofs.board.TurnTable.name.Goals as goal

pub load-requires : goal.load-requires
load-requires g c = let v = c.requires.value in (search rules, search rules, names_keep _ _ _ _ _ _ v.0 _ _ _ _ c.requires.own.1 (v.2, g.met.T.Dated.begins _ _ v.2) c.requires.home v.3 v.1)
