-- The secret that bytes are.
use Rattle.std.proofs.Common.{◌≡◌, ℕ, List, None, Result, sym, ap, subst, ◌∙◌}
use Rattle.std.specs.Prelude.{IfOk}
use Rattle.std.specs.Str.{IsUtf8}
use Rattle.std.proofs.lemmas.Bool.{cond-true, cond-false, false_from_ne_true}
use Rattle.std.proofs.lemmas.Str.{is_utf8-from_IsUtf8, IsUtf8-from_is_utf8}
use Rattle.ocm_types.specs.Texts.{secret_of}
use Rattle.ocm_dav.specs.Credentials.{bytes_secret}

-- bytes that are a text are read as it
pub secret_of_text : (bytes text : List ℕ) → text ≡ bytes → IsUtf8 bytes → secret_of text ≡ bytes_secret bytes
secret_of_text bytes text same utf8 = ap secret_of same ∙ sym (cond-true _ _ _ (is_utf8-from_IsUtf8 bytes utf8))

-- and others are none
pub secret_of_no_text : (bytes : List ℕ) → ¬ (IsUtf8 bytes) → None ≡ bytes_secret bytes
secret_of_no_text bytes none = sym (cond-false _ _ _ (false_from_ne_true _ (λ e. none (IsUtf8-from_is_utf8 bytes e))))

-- what is answered, by an equal value
pub same_answer : {A E : Type 0} (r : Result A E) (x y : A) → x ≡ y → IfOk r (λ s. s ≡ x) → IfOk r (λ s. s ≡ y)
same_answer r x y e h = subst (λ w. IfOk r (λ s. s ≡ w)) e h
