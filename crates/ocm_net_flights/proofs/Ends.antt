-- Where the text of a head lies in the bytes at whose front it is found.
use Rattle.std.proofs.Common.{◌≡◌, ℕ, ◌<◌, ◌≤◌, suc, zero, List, [], ◌∷◌, length, take, drop, arith}
use Rattle.ocm_http_heads.specs.declared.endings.Found.TheVariants.{Whole}
use Rattle.ocm_http_heads.specs.Endings.{found, of_head, lines}
use Rattle.ocm_http_heads.proofs.Looks.{whole_within}

pub ends_within : (bytes : List ℕ) (n : ℕ) → found of_head bytes ≡ Whole n → n ≤ length bytes
ends_within bytes n h = (whole_within of_head bytes n h).length

lines_drop : (k : ℕ) (text : List ℕ) → lines (drop k text) ≤ lines text
lines_drop zero text = omega arith
lines_drop (suc k) [] = omega arith
lines_drop (suc k) (b ∷ text) =
    let rest : lines (drop k text) ≤ lines text = lines_drop k text in
    omega arith

-- without what stands before it, it has few lines too
pub few_lines : (bytes : List ℕ) (n k : ℕ) → found of_head bytes ≡ Whole n → lines (drop k (take n bytes)) ≤ 66
few_lines bytes n k h =
    let within = whole_within of_head bytes n h in
    let all : lines (take n bytes) ≤ 66 = within.lines in
    let fewer : lines (drop k (take n bytes)) ≤ lines (take n bytes) = lines_drop k (take n bytes) in
    omega arith

-- a head that was found whole has some bytes of these
pub ends_inside : (bytes : List ℕ) (n : ℕ) → found of_head bytes ≡ Whole n → (0 < n) × (n ≤ length bytes)
ends_inside bytes n h = let within = whole_within of_head bytes n h in (within.some, within.length)
