use Rattle.ocm_davmore.proofs.DestinationForms.{address_reads_back, other_address}
use Rattle.ocm_davmore.proofs.PlainAddresses.{plain_reads_back}
use Rattle.ocm_davmore.proofs.laws.addresses_read_back.Goals as goal

pub returns-clause-ours : goal.returns-clause-ours
returns-clause-ours c = address_reads_back

pub returns-clause-other : goal.returns-clause-other
returns-clause-other c = other_address

pub returns-clause-plain : goal.returns-clause-plain
returns-clause-plain c = plain_reads_back
