-- The records of an area are within their sizes.
use Rattle.std.proofs.Common.{◌≡◌, ◌≤◌, ◌<◌, ℕ, zero, suc, List, [], ◌∷◌, length, get_or, refl, ◌∙◌, ap, arith, length-append}
use Rattle.ocm_journal_image.specs.Layout.{AreRecords, blocks, blocks_size}

pub record_size : (rs : List (List ℕ)) (i : ℕ) (d : List ℕ) → AreRecords rs → i < length rs → length (get_or rs i d) ≤ 2097152
record_size [] i d sizes lt = absurd (omega (arith, lt))
record_size (r ∷ rs) zero d sizes lt = sizes.1
record_size (r ∷ rs) (suc i) d sizes lt = record_size rs i d sizes.2 (omega (arith, lt))

pub length-blocks : (rs : List (List ℕ)) → length (blocks rs) ≡ blocks_size rs
length-blocks [] = refl
length-blocks (r ∷ rs) = omega (arith, length-blocks rs, length-append r (blocks rs))

-- the same of an item as a loop reads it
pub item_size : (rs items : List (List ℕ)) (i : ℕ) (d item shown : List ℕ) → items ≡ rs → item ≡ get_or items i d → shown ≡ item → i < length items → AreRecords rs → length shown ≤ 2097152
item_size rs items i d item shown all is same lt sizes =
    let lt2 : i < length rs = omega (arith, lt, ap length all) in
    let e : length shown ≡ length (get_or rs i d) = ap length same ∙ ap length is ∙ ap (λ (l : List (List ℕ)). length (get_or l i d)) all in
    let k = record_size rs i d sizes lt2 in
    omega (arith, e, k)
