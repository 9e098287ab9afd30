use Rattle.std.proofs.Common.{refl}
use Rattle.ocm_texts.proofs.HexLaws.{not_all_hex-from_some}
use Rattle.ocm_script.proofs.words.spelled.Goals as goal

pub returns-in-Err-Digit : goal.returns-in-Err-Digit
returns-in-Err-Digit c =
    let place = c.in-Err-Digit.field-0-0 in
    let found = (c.in-Err-Digit.ensures.digit place).0 cc in
    rw (found.0, not_all_hex-from_some c.args.digits.now place found.1) refl
