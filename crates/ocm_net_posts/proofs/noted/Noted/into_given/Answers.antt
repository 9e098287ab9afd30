use Rattle.std.proofs.Common.{◌∙◌, List, sym, ap}
use Rattle.ocm_pump.specs.Machines.{DeliveryState}
use Rattle.ocm_pump.specs.declared.exchanges.Exchange.{Exchange}
use Rattle.ocm_net_posts.proofs.MadeLemmas.{done_delivers}
use Rattle.ocm_net_posts.proofs.noted.Noted.into_given.Goals as goal

pub returns-in-Ok : goal.returns-in-Ok
returns-in-Ok c =
    let self = c.args.self in
    let parts = c.into_parts-delivery.ensures in
    let done = sym (ap (λ (p : DeliveryState × List Exchange). p.0.stage) parts.parts) ∙ c.in-Ok.ensures.done in
    done_delivers self.message self.stage self.exchanges c.into_parts-delivery.result.1 c.in-Ok.answer parts.made done (ap (λ (p : DeliveryState × List Exchange). p.1) parts.parts)
