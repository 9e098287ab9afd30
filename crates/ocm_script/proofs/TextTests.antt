use Rattle.std.proofs.Common.{◌≡◌, ℕ, List, Bool, true, false, Some, refl}
use Rattle.std.specs.Str.{IsUtf8, is_utf8}
use Rattle.std.proofs.lemmas.Str.{IsUtf8-from_is_utf8}
use Rattle.ocm_script.specs.Words.{when}

pub when-true : {X : Type 0} (b : Bool) (x : X) → b ≡ true → when b x ≡ Some x
when-true b x e = rw e refl

pub not_text : (w : List ℕ) → ¬ (IsUtf8 w) → is_utf8 w ≡ false
not_text w not_utf8 = elim (is_utf8 w) as (λ b. (b ≡ true → IsUtf8 w) → b ≡ false) [ true ↦ (λ f. absurd (not_utf8 (f refl))) | false ↦ (λ f. refl) ] (IsUtf8-from_is_utf8 w)
