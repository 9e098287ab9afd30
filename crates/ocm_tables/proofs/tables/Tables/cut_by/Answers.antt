use Rattle.ocm_tables.proofs.tables.Tables.cut_by.Goals as goal

pub returns-clause-cut : goal.returns-clause-cut
returns-clause-cut g c = rw (← c.self.view_is) c.cut_by.ensures.cut
