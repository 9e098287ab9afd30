use Rattle.std.proofs.Common.{rules, ◌≡◌, ◌<◌, ◌^◌, ◌+◌, ◌-◌, refl, arith, get_or}
use Rattle.std.proofs.lemmas.Bool.{leb-true, le-leb}
use Rattle.ocm_journal_image.specs.Reading.{area_in}
use Rattle.ocm_journal_image.proofs.ForAnyLabel.{few_is_blank, begun_is_blank, begun_is_short, last_answer}
use Rattle.ocm_journal_image.proofs.blanks.read_blank_for_any.Goals as goal

pub returns-then-bytes-le1 : goal.returns-then-bytes-le1
returns-then-bytes-le1 c = ((λ t. few_is_blank c.args.bytes.now c.if-bytes-le1.true), (λ blank. refl))

pub returns-then-bytes-eq0 : goal.returns-then-bytes-eq0
returns-then-bytes-eq0 c = ((λ t. begun_is_blank c.args.bytes.now c.if-bytes-eq0.true (leb-true _ _ t)), (λ blank. le-leb _ _ (begun_is_short c.args.bytes.now c.if-bytes-le1.false c.if-bytes-eq0.true blank)))

pub returns : goal.returns
returns c =
    let is : 9 + get_or c.args.bytes.now 8 0 - 9 ≡ get_or c.args.bytes.now 8 0 = omega arith in
    let byte = c.type_inv.bytes 8 in
    let few : get_or c.args.bytes.now 8 0 < 256 = search rules in
    let area_is : c.area_in.result ≡ area_in c.args.bytes.now = c.area_in.ensures in
    let fits : c.area_in.result < 2 ^ 64 = c.area_in.type_inv in
    last_answer c.args.bytes.now c.area_in.result (9 + get_or c.args.bytes.now 8 0 - 9) c.in_ok-blank.blank c.is_some.result c.if-bytes-le1.false c.if-bytes-eq0.false c.if-bytes-ne-GREATEST_BLANK.false few area_is fits c.if-label_end-eq9.false is c.in_ok-blank.ensures c.is_some.ensures
