use Rattle.ocm_types.proofs.AddressReading.{parts_of-finds}
use Rattle.ocm_types.proofs.addresses.parts.Goals as goal

pub returns : goal.returns
returns c = rw c.ok_or.ensures.value (parts_of-finds c.args.s.now c.rsplit_once.result c.rsplit_once.ensures.cases)
