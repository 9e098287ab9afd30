use Rattle.std.proofs.Common.{◌≡◌, Ok}
use Rattle.ocm_records.specs.Rows.{record_of}
use Rattle.ocm_records.specs.Offers.{offer}
use Rattle.ocm_records.proofs.ReadBack.{offer_back}
use Rattle.ocm_records.proofs.WrittenBytes.{text_of, each_back}
use Rattle.ocm_records.proofs.WrittenLaws.{offer_no_float}
use Rattle.ocm_records.proofs.offer_json.write_offer.Goals as goal

pub returns-clause-text : goal.returns-clause-text
returns-clause-text c = text_of c.bytes_of.result _ _ c.in_ok-value.ensures.value (offer_no_float c.args.v.now) c.bytes_of.ensures.text

pub returns-clause-read_back : goal.returns-clause-read_back
returns-clause-read_back c =
    each_back c.bytes_of.result _
    (λ b. record_of offer b ≡ Ok c.args.v.now)
    (λ b again. offer_back b _ c.args.v.now c.in_ok-value.ensures.value again c.in_ok-value.ensures.sound)
    c.bytes_of.ensures.reads_back
