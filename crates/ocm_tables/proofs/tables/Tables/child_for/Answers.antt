use Rattle.ocm_tables.proofs.tables.Tables.child_for.Goals as goal

pub returns-clause-child : goal.returns-clause-child
returns-clause-child g c = rw (← c.self.view_is) c.child.ensures.found
