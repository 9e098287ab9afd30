use Rattle.ocm_types.proofs.HostReading.{host_of-canonical}
use Rattle.ocm_types.proofs.hosts.Host.read.Goals as goal

pub invariant_of-result : goal.invariant_of-result
invariant_of-result c = host_of-canonical c.args.s.now c.in_ok-text.text c.in_ok-text.ensures
