use Rattle.std.proofs.Common.{[], ap}
use Rattle.ocm_pump.specs.Machines.{DeliveryState}
use Rattle.ocm_net_posts.proofs.noted.Noted.new.Goals as goal

pub invariant_of-result : goal.invariant_of-result
invariant_of-result c = ([], (c.new-2.ensures, ap (λ (d : DeliveryState). d.stage) c.new.ensures))
