use Rattle.ocm_core.proofs.server.Core.answer.Given as goal

abbrev pub ghosts-answer_from-I-Ledger : goal.ghosts-answer_from-I-Ledger
ghosts-answer_from-I-Ledger a = record { name = a.index.name; parts = a.index.parts }

abbrev pub ghosts-answer_from-R-Ledger : goal.ghosts-answer_from-R-Ledger
ghosts-answer_from-R-Ledger a = record { name = a.rows.name; parts = a.rows.parts }

abbrev pub ghosts-answer_from-L-Ledger : goal.ghosts-answer_from-L-Ledger
ghosts-answer_from-L-Ledger a = record { name = a.steps.name; parts = a.steps.parts }
