-- Bytes before an LF, seen 16 at a time through the mask of those that are LF.
use Rattle.std.proofs.Common.{◌≡◌, ℕ, ◌+◌, ◌*◌, ◌<◌, ◌≤◌, Bool, true, false, not, cond, eqb, List, [], ◌∷◌, map, length, drop, refl, sym, ap, ◌∙◌, arith}
use Rattle.std.proofs.lemmas.Simd.{chunk-drop, length-chunk, leading_from_mask_l, trailing_mask_l}
use Rattle.std.proofs.lemmas.List.Folds.{prefix_len-append}
use Rattle.std.proofs.lemmas.List.Sums.{prefix_len-le-length}
use Rattle.std.proofs.lemmas.Bool.{eq-eqb, ne_eqb}
use Rattle.std.specs.List.{prefix_len}
use lib.Lanes.{chunk, mask_l}
use lib.Count.{count_trailing_zeros}
use Rattle.ocm_http_heads.specs.Endings.{is_feed, is_in_line}

no_bit : (feed : Bool) (n l m : ℕ) → n ≤ l → cond (not feed) (1 + n) 0 ≡ 1 + l → (n ≡ l → m ≡ 0) → cond feed 1 0 + 2 * m ≡ 0
no_bit true n l m le e rest = let no : ⊥ = omega arith in absurd no
no_bit false n l m le e rest = let none = rest (omega arith) in omega arith

no_mask : (bytes : List ℕ) → prefix_len is_in_line bytes ≡ length bytes → mask_l (map is_feed bytes) ≡ 0
no_mask [] e = refl
no_mask (b ∷ x) e = no_bit (is_feed b) _ (length x) _ (prefix_len-le-length is_in_line x) (omega arith) (no_mask x)

split : (bytes : List ℕ) (i : ℕ) → prefix_len is_in_line (drop i bytes) ≡ cond (eqb (prefix_len is_in_line (chunk i 16 bytes)) (length (chunk i 16 bytes))) (length (chunk i 16 bytes) + prefix_len is_in_line (drop (i + 16) bytes)) (prefix_len is_in_line (chunk i 16 bytes))
split bytes i = ap (prefix_len is_in_line) (chunk-drop i 16 bytes) ∙ prefix_len-append is_in_line (chunk i 16 bytes) (drop (i + 16) bytes)

-- where none of the 16 bytes from i on is LF
pub goes_on : (bytes : List ℕ) (i : ℕ) → i + 16 ≤ length bytes → mask_l (map is_feed (chunk i 16 bytes)) ≡ 0 → prefix_len is_in_line (drop i bytes) ≡ 16 + prefix_len is_in_line (drop (i + 16) bytes)
goes_on bytes i room none =
    let c = chunk i 16 bytes in
    split bytes i ∙ ap (λ b. cond b (length c + prefix_len is_in_line (drop (i + 16) bytes)) (prefix_len is_in_line c)) (eq-eqb _ _ (leading_from_mask_l is_feed c none))
    ∙ ap (λ k. k + prefix_len is_in_line (drop (i + 16) bytes)) (length-chunk i 16 bytes room)

-- where one is
pub stops : (bytes : List ℕ) (i : ℕ) → i + 16 ≤ length bytes → 0 < mask_l (map is_feed (chunk i 16 bytes)) → prefix_len is_in_line (drop i bytes) ≡ count_trailing_zeros 64 (mask_l (map is_feed (chunk i 16 bytes)))
stops bytes i room some =
    let c = chunk i 16 bytes in
    split bytes i ∙ ap (λ b. cond b (length c + prefix_len is_in_line (drop (i + 16) bytes)) (prefix_len is_in_line c)) (ne_eqb _ _ (λ (e : prefix_len is_in_line c ≡ length c). omega (arith, no_mask c e)))
    ∙ sym (trailing_mask_l is_feed 64 c (omega (arith, length-chunk i 16 bytes room)) some)
