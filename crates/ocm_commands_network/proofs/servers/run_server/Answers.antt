use Rattle.std.proofs.Common.{inl, inr, refl}
use Rattle.ocm_serve_system.specs.declared.openings.OpenFault.TheVariants.{NoMemory}
use Rattle.ocm_commands_network.proofs.Ordered.{orders-have-workers}
use Rattle.ocm_commands_network.proofs.Statuses.{not-unwritten}
use Rattle.ocm_commands_network.proofs.servers.run_server.Goals as goal

pub run_orders-requires-clause-workers : goal.run_orders-requires-clause-workers
run_orders-requires-clause-workers g c κs within = orders-have-workers _ c.in-Ok.orders c.in-Ok.ensures

pub returns-in-Ok-clause-part_of_usage : goal.returns-in-Ok-clause-part_of_usage
returns-in-Ok-clause-part_of_usage g c = λ failed. absurd (not-unwritten c.run_orders.result c.run_orders.ensures.status failed)

pub returns-in-Ok-clause-ran : goal.returns-in-Ok-clause-ran
returns-in-Ok-clause-ran g c = inr (inr (inr (c.in-Ok.orders, c.in-Ok.ensures, c.run_orders.ensures.ran)))

pub returns-in-Err-NoMemory-clause-ran : goal.returns-in-Err-NoMemory-clause-ran
returns-in-Err-NoMemory-clause-ran g c = inr (inr (inl (NoMemory, refl)))
