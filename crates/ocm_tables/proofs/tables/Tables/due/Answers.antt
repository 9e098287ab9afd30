use Rattle.ocm_tables.proofs.tables.Tables.due.Goals as goal

pub returns : goal.returns
returns c = rw (← c.self.view_is) c.due.ensures
