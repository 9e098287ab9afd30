use Rattle.ocm_types.proofs.HostPorts.{is_port-decimal, ports_only}
use Rattle.ocm_types.proofs.laws.ports_are_decimals.Goals as goal

pub returns-clause-each : goal.returns-clause-each
returns-clause-each c = is_port-decimal

pub returns-clause-only : goal.returns-clause-only
returns-clause-only c = ports_only
