use Rattle.std.proofs.Common.{List, Option, sym, subst}
use Rattle.ocm_pump.specs.declared.exchanges.Came.{Came}
use Rattle.ocm_pump.specs.declared.exchanges.Exchange.{Exchange}
use Rattle.ocm_pump.specs.Exchanges.{AddsSome, Hears}
use Rattle.ocm_pump.specs.Delivery.{Delivers, is_settled}
use Rattle.ocm_pump.proofs.deliveries.deliver.Goals as goal

pub returns-clause-exact : goal.returns-clause-exact
returns-clause-exact g c =
    subst (λ (new : Option (List Exchange)). AddsSome (g.N.Dial.exchanges c.args.dial.now) new (λ added. Delivers c.args.message.now added c.find_and_post-delivered.result)) (sym c.tell.ensures.same.0) c.find_and_post-delivered.ensures.exact

pub returns-clause-told : goal.returns-clause-told
returns-clause-told g c =
    subst (λ (old : Option (List Came)). Hears old (g.N.Dial.told c.tell.new.dial) c.args.message.now.to (is_settled c.args.message.now.letter c.find_and_post-delivered.result)) c.find_and_post-delivered.ensures.untold c.tell.ensures.told
