use Rattle.std.proofs.Common.{◌≡◌, ℕ, true, false, List, Option, None, if◌then◌else◌, sym, subst, ap, ◌∙◌}
use Rattle.std.specs.Str.{is_utf8}
use Rattle.std.proofs.lemmas.Bool.{false_from_ne_true}
use Rattle.std.proofs.lemmas.Str.{is_utf8-from_IsUtf8, IsUtf8-from_is_utf8}
use Rattle.ocm_types.specs.Texts.{secret_of}
use Rattle.ocm_serve_options.specs.Keys.{Gives}
use Rattle.ocm_serve_options.proofs.keys.key_at.Goals as goal

pub returns-in-Ok-clause-key : goal.returns-in-Ok-clause-key
returns-in-Ok-clause-key c =
    let utf8 : is_utf8 c.args.text.now ≡ true = is_utf8-from_IsUtf8 c.args.text.now c.in-Ok.ensures.cases.1 in
    let same : c.in-Ok.text.now ≡ c.args.text.now = c.in-Ok.ensures.cases.0 in
    subst (λ (o : Option (List ℕ)). Gives c.secret_at.result o)
    (ap secret_of same ∙ sym (ap (λ b. if b then secret_of c.args.text.now else None) utf8))
    c.secret_at.ensures.key

pub returns-in-Err-clause-key : goal.returns-in-Err-clause-key
returns-in-Err-clause-key c =
    let utf8 : is_utf8 c.args.text.now ≡ false = false_from_ne_true (is_utf8 c.args.text.now) (λ e. c.in-Err.ensures.cases.0 (IsUtf8-from_is_utf8 c.args.text.now e)) in
    ap (λ b. if b then secret_of c.args.text.now else None) utf8
