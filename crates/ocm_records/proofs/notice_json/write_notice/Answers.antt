use Rattle.std.proofs.Common.{◌≡◌, true, Ok}
use Rattle.ocm_records.specs.Rows.{record_of}
use Rattle.ocm_records.specs.Notices.{notice}
use Rattle.ocm_records.specs.Sound.{is_numbered}
use Rattle.ocm_records.proofs.NoticesBack.{notice_back}
use Rattle.ocm_records.proofs.WrittenBytes.{text_of, each_back}
use Rattle.ocm_records.proofs.WrittenLaws.{notice_no_float}
use Rattle.ocm_records.proofs.notice_json.write_notice.Goals as goal

pub returns-clause-text : goal.returns-clause-text
returns-clause-text c = text_of c.bytes_of.result _ _ c.in_ok-value.ensures.value (notice_no_float c.args.v.now) c.bytes_of.ensures.text

pub returns-clause-read_back : goal.returns-clause-read_back
returns-clause-read_back c =
    each_back c.bytes_of.result _
    (λ b. is_numbered c.args.v.now ≡ true → record_of notice b ≡ Ok c.args.v.now)
    (λ b again. λ numbered. notice_back b _ c.args.v.now c.in_ok-value.ensures.value again c.in_ok-value.ensures.sound numbered)
    c.bytes_of.ensures.reads_back
