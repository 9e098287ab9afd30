-- What is known of a value is known of the bytes that it was written as.
use Rattle.std.proofs.Common.{◌≡◌, ◌≤◌, ℕ, false, List, Some, Result, Ok, Err, IfOk, ◌∙◌, sym, ap, subst}
use Rattle.serde_json.specs.Data.{Data, depth}
use Rattle.serde_json.specs.Written.{compact_text, has_float}
use Rattle.ocm_json.specs.Json.{json_of}

-- the bytes of a value that has no float
pub text_of : {E : Type 0} (r : Result (List ℕ) E) (d e : Data) → d ≡ e → has_float e ≡ false → IfOk r (λ b. has_float d ≡ false → b ≡ compact_text d) → IfOk r (λ b. b ≡ compact_text e)
text_of (Ok b) d e same none is = is (subst (λ x. has_float x ≡ false) (sym same) none) ∙ ap compact_text same
text_of (Err fault) d e same none is = tt

-- what bytes have that read as the value
pub each_back : {E : Type 0} (r : Result (List ℕ) E) (d : Data) (Q : List ℕ → Type 0) → ((b : List ℕ) → (depth d ≤ 127 → json_of b ≡ Some d) → Q b) → IfOk r (λ b. depth d ≤ 127 → json_of b ≡ Some d) → IfOk r Q
each_back (Ok b) d Q each is = each b is
each_back (Err fault) d Q each is = tt
