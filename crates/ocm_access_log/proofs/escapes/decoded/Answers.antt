use Rattle.std.proofs.Common.{◌≡◌, IsUtf8, string_bytes, subst, sym, ◌∙◌, ap}
use Rattle.std.specs.Vec.{vec_items}
use Rattle.std.proofs.lemmas.Str.{IsUtf8-string_bytes}
use Rattle.percent_encoding.specs.Percent.{percent_decode}
use Rattle.ocm_access_log.proofs.TextTests.{text_of-text, text_of-none}
use Rattle.ocm_access_log.proofs.escapes.decoded.Goals as goal

pub returns-in-Ok : goal.returns-in-Ok
returns-in-Ok c =
    let same : string_bytes c.in-Ok.text ≡ percent_decode c.args.word.now = ap vec_items c.in-Ok.ensures.ok ∙ c.in_ok-bytes.ensures in
    text_of-text _ _ (c.from_string.ensures ∙ same) (subst IsUtf8 same (IsUtf8-string_bytes c.in-Ok.text))

pub returns : goal.returns
returns c = text_of-none _ (λ utf8. absurd (cc (c.in-Err.ensures.succeeds (subst IsUtf8 (sym c.in_ok-bytes.ensures) utf8))))
