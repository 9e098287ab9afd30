use Rattle.std.proofs.Common.{◌∙◌, sym, ap}
use Rattle.std.specs.Prelude.{option_map}
use Rattle.ocm_rules.specs.Messages.{as_sent}
use Rattle.ocm_rules.specs.Numbers.{at_number}
use Rattle.ocm_rules.specs.Views.{View}
use Rattle.ocm_core.proofs.Standing.{view-after}
use Rattle.ocm_core.proofs.server.Core.message.Goals as goal

pub returns-clause-history : goal.returns-clause-history
returns-clause-history c =
    rw (← c.self.view_is)
    (λ g h. c.message.ensures ∙ ap (λ (v : View). option_map (λ message. as_sent (c.args.number, message)) (at_number v.messages c.args.number)) (sym (view-after c.self.inside.tables.state g h)))
