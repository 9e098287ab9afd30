use Rattle.ocm_tables.proofs.tables.Tables.told_by_limit.Goals as goal

pub returns-clause-told : goal.returns-clause-told
returns-clause-told g c = rw (← c.self.view_is) c.changed.ensures.changed
