use Rattle.ocm_tables.proofs.tables.Tables.shares_of.Goals as goal

pub returns-clause-shares : goal.returns-clause-shares
returns-clause-shares g c = rw (← c.self.view_is) c.owned.ensures.owned
