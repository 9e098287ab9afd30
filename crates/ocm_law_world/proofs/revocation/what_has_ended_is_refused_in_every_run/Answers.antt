use Rattle.ocm_law_world.proofs.Laws.{refused-read, refused-carry}
use Rattle.ocm_law_world.proofs.revocation.what_has_ended_is_refused_in_every_run.Goals as goal

pub returns-clause-read : goal.returns-clause-read
returns-clause-read c = refused-read

pub returns-clause-carried : goal.returns-clause-carried
returns-clause-carried c = refused-carry
