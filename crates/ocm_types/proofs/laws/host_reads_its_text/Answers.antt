use Rattle.ocm_types.proofs.HostReading.{host_of-same, canonical_host_of-same}
use Rattle.ocm_types.proofs.laws.host_reads_its_text.Goals as goal

pub returns-clause-read : goal.returns-clause-read
returns-clause-read c = host_of-same c.args.host.now c.text-text.ensures.canonical

pub returns-clause-strict : goal.returns-clause-strict
returns-clause-strict c = canonical_host_of-same c.args.host.now c.text-text.ensures.canonical
