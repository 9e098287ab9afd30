use Rattle.ocm_records.proofs.Groups.{read_by_groups}
use Rattle.ocm_records.proofs.offers.read_offer.Goals as goal

pub returns : goal.returns
returns c = read_by_groups c.args.bytes.now _ _ _ c.in_ok-fields.ensures c.borrowed.ensures c.offer.ensures
