use Rattle.std.proofs.Common.{◌≡◌, true, false, refl}
use Rattle.std.specs.Str.{is_utf8}
use Rattle.std.proofs.lemmas.Str.{is_utf8-from_IsUtf8, IsUtf8-from_is_utf8}
use Rattle.std.proofs.lemmas.Bool.{false_from_ne_true}
use Rattle.ocm_entry_bytes.specs.Reading.{text_at}
use Rattle.ocm_entry_bytes.proofs.fields.text_at.Goals as goal

pub returns-in-Ok : goal.returns-in-Ok
unfolding text_at
returns-in-Ok c =
    let is : is_utf8 c.in_ok-text.text.now ≡ true = is_utf8-from_IsUtf8 c.in_ok-text.text.now c.in-Ok.ensures.cases.1 in
    rw (c.in_ok-len.ensures, c.in_ok-text.ensures.value, is, c.in-Ok.ensures.cases.0) refl

pub returns-in-Err : goal.returns-in-Err
unfolding text_at
returns-in-Err c =
    let is : is_utf8 c.in_ok-text.text.now ≡ false = false_from_ne_true (is_utf8 c.in_ok-text.text.now) (λ e. c.in-Err.ensures.cases.0 (IsUtf8-from_is_utf8 c.in_ok-text.text.now e)) in
    rw (c.in_ok-len.ensures, c.in_ok-text.ensures.value, is) refl
