-- The crate's set of escaped bytes is all but the unreserved ones.
use Rattle.std.proofs.Common.{◌≡◌, ℕ, ◌<◌, ◌++◌, List, [], ◌∷◌, Bool, true, false, not, refl, ap, ap₂, ◌∙◌, cond, All}
use Rattle.std.proofs.lemmas.Bool.{agree_below, agree_below_at}
use Rattle.std.proofs.lemmas.List.Elements.{All-head, All-tail}
use Rattle.percent_encoding.specs.AsciiSet.{should_percent_encode}
use Rattle.percent_encoding.specs.Percent.{percent_encode, encode_byte, percent_encode_byte}
use Rattle.percent_encoding.proofs.PercentLemmas.{IsByte}
use Rattle.ocm_path.specs.declared.escapes.TheConstants.{ESCAPED}
use Rattle.ocm_path.specs.Escapes.{is_unreserved, escape, escape_byte}

table : agree_below (should_percent_encode ESCAPED) (λ b. not (is_unreserved b)) 256 ≡ true
unfolding should_percent_encode
table = refl

cond-not : (c : Bool) (xs ys : List ℕ) → cond (not c) xs ys ≡ cond c ys xs
cond-not true xs ys = refl
cond-not false xs ys = refl

escape_byte_is : (b : ℕ) → b < 256 → encode_byte ESCAPED b ≡ escape_byte b
escape_byte_is b small =
    ap (λ (c : Bool). cond c (percent_encode_byte b) (b ∷ [])) (agree_below_at (should_percent_encode ESCAPED) (λ x. not (is_unreserved x)) 256 b table small) ∙ cond-not (is_unreserved b) (percent_encode_byte b) (b ∷ [])

-- what the crate writes for bytes is what is escaped here
pub percent_encode-ESCAPED : (bytes : List ℕ) → All IsByte bytes → percent_encode ESCAPED bytes ≡ escape bytes
unfolding percent_encode
percent_encode-ESCAPED [] small = refl
percent_encode-ESCAPED (b ∷ bytes) small =
    ap₂ (λ (x y : List ℕ). x ++ y) (escape_byte_is b (All-head IsByte b bytes small)) (percent_encode-ESCAPED bytes (All-tail IsByte b bytes small))
