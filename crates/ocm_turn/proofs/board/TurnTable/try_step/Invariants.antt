use Rattle.ocm_turn.specs.Calls.{entry}
use Rattle.ocm_turn.proofs.board.TurnTable.try_step.Given as goal

-- the entry is that of this call, and the moment that of the value behind it
abbrev pub ghosts-finish : goal.ghosts-finish
ghosts-finish g a = record { told = entry a.ask.now.value a.reply.now; moment = g.T.Dated.moment a.behind.now.value }
