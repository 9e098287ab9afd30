use Rattle.ocm_types.proofs.HostReading.{host_of-same, host_of-canonical, canonical_host_of-same, canonical_host_of-is}
use Rattle.ocm_types.proofs.laws.hosts_read_as_themselves.Goals as goal

pub returns-clause-read : goal.returns-clause-read
returns-clause-read c = host_of-same

pub returns-clause-canonical : goal.returns-clause-canonical
returns-clause-canonical c = host_of-canonical

pub returns-clause-strict : goal.returns-clause-strict
returns-clause-strict c = canonical_host_of-same

pub returns-clause-strict_only : goal.returns-clause-strict_only
returns-clause-strict_only c = canonical_host_of-is
