use Rattle.std.proofs.Common.{ap, ◌∙◌}
use Rattle.std.specs.Prelude.{is_some}
use Rattle.ocm_incoming.specs.Lists.{offers_of}
use Rattle.ocm_incoming.proofs.Asking.{same-known}
use Rattle.ocm_incoming.proofs.inboxes.Inbox.same.Goals as goal

pub returns-clause-known : goal.returns-clause-known
returns-clause-known c = rw (← c.self.view_is) (ap (λ o. is_some o) c.same.ensures ∙ same-known c.args.planned.now (offers_of c.self.inside.records.rows))
