use Rattle.std.proofs.Common.{◌∙◌, sym, ap}
use Rattle.ocm_rules.specs.Views.{View}
use Rattle.ocm_core.proofs.Standing.{view-after}
use Rattle.ocm_core.proofs.server.Core.moment.Goals as goal

pub returns-clause-history : goal.returns-clause-history
returns-clause-history c = rw (← c.self.view_is) (λ g h. c.moment.ensures ∙ ap (λ (v : View). v.moment) (sym (view-after c.self.inside.tables.state g h)))
