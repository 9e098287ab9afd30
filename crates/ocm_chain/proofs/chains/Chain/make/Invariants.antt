use Rattle.ocm_chain.proofs.chains.Chain.make.Given as goal

abbrev pub ghosts-make_from : goal.ghosts-make_from
ghosts-make_from a = record { name = a.blank.name; parts = a.blank.parts }
