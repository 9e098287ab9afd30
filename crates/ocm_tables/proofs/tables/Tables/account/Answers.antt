use Rattle.ocm_tables.proofs.Numbering.{IfSome-account}
use Rattle.ocm_tables.proofs.tables.Tables.account.Goals as goal

pub returns-clause-user : goal.returns-clause-user
returns-clause-user c = rw (← c.self.view_is) (IfSome-account c.self.inside.users.users c.args.key.now c.with_key.result c.with_key.ensures)
