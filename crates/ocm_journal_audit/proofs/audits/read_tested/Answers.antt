use Rattle.std.proofs.Common.{◌≡◌, ℕ, List, false, Option, Result, Ok, Err, rules, refl, sym, ◌∙◌, ap}
use Rattle.ocm_journal_image.specs.Reading.{image_of, records_from, with_form, with_header}
use Rattle.ocm_journal_image.specs.declared.readings.Header.{Header}
use Rattle.ocm_journal_image.specs.declared.readings.Image.{Image}
use Rattle.ocm_journal_image.specs.declared.readings.Records.{Records}
use Rattle.ocm_journal_audit.specs.Audits.{is_own_host, told_of}
use Rattle.ocm_journal_audit.specs.Passes.{refused_in}
use Rattle.ocm_journal_audit.proofs.audits.read_tested.Goals as goal

-- a label that is no host is refused before the records
told-label : (image : Result Image ℕ) (header : Header) (form : ℕ) (refused : Option ℕ) (read : Result Records ℕ) → image ≡ with_header header (with_form form read) → refused_in form 0 read ≡ Ok refused → is_own_host header.label ≡ false → told_of image ≡ Err 9
told-label image header form refused (Ok read) is some own = rw is (rw own refl)
told-label image header form refused (Err place) is some own = absurd cc

pub returns-then-not-branch-clause-refused : goal.returns-then-not-branch-clause-refused
returns-then-not-branch-clause-refused c = λ place is.
    let front = c.in_ok-front.front in
    let no : c.in_ok-is_own_host.field-0 ≡ false = search rules in
    let own : is_own_host front.header.label ≡ false = ap (λ (l : List ℕ). is_own_host l) (sym c.as_slice.ensures) ∙ sym c.in_ok-is_own_host.ensures ∙ no in
    let nine : 9 ≡ place = cc in
    told-label (image_of c.args.bytes.now) front.header front.form c.in_ok-refused.refused (records_from 0 front.place front.records.now) c.in_ok-front.ensures.reads c.in_ok-refused.ensures own ∙ ap (λ (n : ℕ). Err n) nine
