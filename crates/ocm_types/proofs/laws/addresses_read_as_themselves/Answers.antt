use Rattle.ocm_types.proofs.AddressReading.{address_of-same, address_of-parts, canonical_address_of-from, canonical_address_of-is}
use Rattle.ocm_types.proofs.laws.addresses_read_as_themselves.Goals as goal

pub returns-clause-read : goal.returns-clause-read
returns-clause-read c = address_of-same

pub returns-clause-parts : goal.returns-clause-parts
returns-clause-parts c = address_of-parts

pub returns-clause-strict : goal.returns-clause-strict
returns-clause-strict c = canonical_address_of-from

pub returns-clause-strict_only : goal.returns-clause-strict_only
returns-clause-strict_only c = canonical_address_of-is
