-- Which bytes are a text.
use Rattle.std.proofs.Common.{◌≡◌, ℕ, List, Some, None, sym, ap, ◌∙◌}
use Rattle.std.specs.Str.{IsUtf8}
use Rattle.std.proofs.lemmas.Bool.{cond-true, cond-false, false_from_ne_true}
use Rattle.std.proofs.lemmas.Str.{is_utf8-from_IsUtf8, IsUtf8-from_is_utf8}
use Rattle.ocm_access_log.specs.Lines.{text_of}

-- bytes of UTF-8 are the text that they spell
pub text_of-text : (bytes text : List ℕ) → text ≡ bytes → IsUtf8 bytes → text_of bytes ≡ Some text
text_of-text bytes text same utf8 = cond-true _ _ _ (is_utf8-from_IsUtf8 bytes utf8) ∙ ap Some (sym same)

-- and others are none
pub text_of-none : (bytes : List ℕ) → ¬ (IsUtf8 bytes) → text_of bytes ≡ None
text_of-none bytes none = cond-false _ _ _ (false_from_ne_true _ (λ e. none (IsUtf8-from_is_utf8 bytes e)))
