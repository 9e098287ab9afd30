use Rattle.std.proofs.Common.{◌≡◌, IsUtf8, subst, sym, ◌∙◌, ap}
use Rattle.std.specs.Vec.{vec_items}
use Rattle.percent_encoding.specs.Percent.{percent_decode}
use Rattle.std.proofs.lemmas.Str.{IsUtf8-string_bytes, is_utf8-from_IsUtf8, IsUtf8-from_is_utf8}
use Rattle.std.proofs.lemmas.Bool.{false_from_ne_true}
use Rattle.ocm_path.proofs.escapes.decoded_text.Goals as goal

pub returns-in-Ok-clause-utf8 : goal.returns-in-Ok-clause-utf8
returns-in-Ok-clause-utf8 c =
    let text = IsUtf8-string_bytes c.in-Ok.text in
    is_utf8-from_IsUtf8 _ (subst IsUtf8 (ap vec_items c.in-Ok.ensures.ok ∙ c.in_ok-append_to.ensures.ok ∙ rw (c.new-bytes.ensures.items, c.percent_decode.ensures.bytes)) text)

pub returns-clause-not_utf8 : goal.returns-clause-not_utf8
returns-clause-not_utf8 c other =
    let items : c.append_to.new.out.items ≡ percent_decode c.args.piece.now = c.in_ok-append_to.ensures.ok ∙ rw (c.new-bytes.ensures.items, c.percent_decode.ensures.bytes) in
    false_from_ne_true _ (λ e. absurd (cc (c.in-Err.ensures.succeeds (subst IsUtf8 (sym items) (IsUtf8-from_is_utf8 _ e)))))
