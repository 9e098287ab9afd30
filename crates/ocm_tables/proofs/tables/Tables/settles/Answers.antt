use Rattle.ocm_tables.proofs.tables.Tables.settles.Goals as goal

pub returns : goal.returns
returns c = rw (← c.self.view_is) c.settles.ensures
