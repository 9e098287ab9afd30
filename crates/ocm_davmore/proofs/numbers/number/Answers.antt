use Rattle.std.proofs.Common.{◌≡◌, true, ◌∙◌, rules}
use Rattle.ocm_davmore.proofs.RangeForms.{number-utf8, parsed_number}
use Rattle.ocm_davmore.specs.Ranges.{is_number}
use Rattle.ocm_davmore.proofs.numbers.number.Goals as goal

pub returns-in-Ok : goal.returns-in-Ok
returns-in-Ok c =
    let form : is_number c.args.bytes.now ≡ true = search rules in
    c.ok.ensures.value ∙ parsed_number c.args.bytes.now c.in-Ok.digits.now c.parse.result c.in-Ok.ensures.cases.0 form c.parse.ensures.value.0

pub returns-in-Err : goal.returns-in-Err
returns-in-Err c =
    let form : is_number c.args.bytes.now ≡ true = search rules in
    absurd (c.in-Err.ensures.cases.0 (number-utf8 c.args.bytes.now form))
