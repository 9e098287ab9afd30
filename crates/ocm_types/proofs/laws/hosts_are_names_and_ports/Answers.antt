use Rattle.ocm_types.proofs.HostPorts.{is_host-name, is_host-name_and_port, hosts_only}
use Rattle.ocm_types.proofs.laws.hosts_are_names_and_ports.Goals as goal

pub returns-clause-name : goal.returns-clause-name
returns-clause-name c = is_host-name

pub returns-clause-port : goal.returns-clause-port
returns-clause-port c = is_host-name_and_port

pub returns-clause-only : goal.returns-clause-only
returns-clause-only c = hosts_only
