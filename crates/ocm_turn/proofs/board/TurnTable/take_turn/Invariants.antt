use Rattle.ocm_turn.proofs.board.TurnTable.take_turn.Given as goal

-- the limit of the turnstile
abbrev pub ghosts-wait_turn : goal.ghosts-wait_turn
ghosts-wait_turn g a = record { limit = a.self.now.limit }
