use Rattle.std.proofs.Common.{◌≡◌, Ok}
use Rattle.ocm_records.specs.Rows.{record_of}
use Rattle.ocm_records.specs.Documents.{error}
use Rattle.ocm_records.proofs.DocumentsBack.{error_back}
use Rattle.ocm_records.proofs.WrittenBytes.{text_of, each_back}
use Rattle.ocm_records.proofs.WrittenLaws.{error_no_float}
use Rattle.ocm_records.proofs.document_json.write_error.Goals as goal

pub returns-clause-text : goal.returns-clause-text
returns-clause-text c = text_of c.bytes_of.result _ _ c.in_ok-value.ensures (error_no_float c.args.v.now) c.bytes_of.ensures.text

pub returns-clause-read_back : goal.returns-clause-read_back
returns-clause-read_back c =
    each_back c.bytes_of.result _
    (λ b. record_of error b ≡ Ok c.args.v.now)
    (λ b again. error_back b _ c.args.v.now c.in_ok-value.ensures again c.requires)
    c.bytes_of.ensures.reads_back
