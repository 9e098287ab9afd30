use Rattle.std.proofs.Common.{ap, ◌∙◌}
use Rattle.std.specs.Prelude.{is_some}
use Rattle.ocm_incoming.proofs.Asking.{first_with-offers}
use Rattle.ocm_incoming.proofs.inboxes.Inbox.is_received.Goals as goal

pub returns : goal.returns
returns c = rw (← c.self.view_is) (c.is_some.ensures ∙ ap (λ o. is_some o) (c.first_with.ensures ∙ first_with-offers c.args.mark.now c.self.inside.records.rows))
