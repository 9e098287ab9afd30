use Rattle.ocm_store.proofs.Opened.{refused-stays, stays-alike}
use Rattle.ocm_store.proofs.laws.what_stays_opens_alike.Goals as goal

pub returns-clause-alike : goal.returns-clause-alike
returns-clause-alike c = stays-alike

pub returns-clause-refused : goal.returns-clause-refused
returns-clause-refused c = refused-stays
