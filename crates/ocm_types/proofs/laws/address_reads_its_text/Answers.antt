use Rattle.ocm_types.proofs.AddressReading.{address_of-same, canonical_address_of-same}
use Rattle.ocm_types.proofs.laws.address_reads_its_text.Goals as goal

pub returns-clause-read : goal.returns-clause-read
returns-clause-read c = address_of-same c.args.address.now c.as_str-user.ensures.is c.text-host.ensures.canonical

pub returns-clause-strict : goal.returns-clause-strict
returns-clause-strict c = canonical_address_of-same c.args.address.now c.as_str-user.ensures.is c.text-host.ensures.canonical
