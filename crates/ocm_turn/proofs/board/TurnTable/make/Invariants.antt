use Rattle.std.proofs.Common.{[]}
use Rattle.ocm_turn.proofs.board.TurnTable.make.Given as goal

-- what the caller knows of the base, and that the value stands for it
abbrev pub ghosts-name : goal.ghosts-name
ghosts-name g a = record {
  known = λ base. g.J.Founded.known base × g.T.Object.stands a.self.now.table.shared.key.value.value base [] × g.T.Object.legal (g.T.Object.terms a.self.now.table.shared.key.value.value) base [];
}
