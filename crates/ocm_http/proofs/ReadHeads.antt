-- A head that was read ahead of its message.
use Rattle.std.proofs.Common.{◌≡◌, ℕ, ◌+◌, ◌<◌, ◌≤◌, List, length, take, drop, refl, sym, ap, ◌∙◌, subst, arith}
use Rattle.std.proofs.lemmas.List.{take-append-drop, take_all, length-take-le}
use Rattle.ocm_http_heads.specs.declared.endings.Look.{Look}
use Rattle.ocm_http_heads.specs.declared.endings.Found.{Found}
use Rattle.ocm_http_heads.specs.declared.endings.Found.TheVariants.{Whole, TooLong, Unfinished}
use Rattle.ocm_http_heads.specs.Endings.{found, moved, further, lines, of_head}
use Rattle.ocm_http_heads.proofs.Looks.{then_found, found-append, whole_within}

-- ---- a head's end is found in the bytes up to it

further_end : (f : Found) (m n : ℕ) → further m f ≡ Whole n → (k : ℕ) × (f ≡ Whole k) × (n ≡ m + k)
further_end (Whole k) m n h = (k, refl, cc)
further_end (TooLong bare) m n h = cc
further_end Unfinished m n h = cc

front_found : (f : Found) (m n : ℕ) (look : Look) (rest : List ℕ) → m ≡ n → then_found f m (found look rest) ≡ Whole n → f ≡ Whole n
front_found (Whole k) m n look rest same h = h
front_found (TooLong bare) m n look rest same h = cc
front_found Unfinished m n look rest same h =
    let later = further_end (found look rest) m n h in
    let some : 0 < later.0 = (whole_within look rest later.0 later.1).some in
    let sum : n ≡ m + later.0 = later.2 in
    let none : ⊥ = omega arith in
    absurd none

pub whole_front : (look : Look) (bytes : List ℕ) (n : ℕ) → found look bytes ≡ Whole n → found look (take n bytes) ≡ Whole n
whole_front look bytes n h =
    let size : length (take n bytes) ≡ n = length-take-le n bytes (whole_within look bytes n h).length in
    front_found (found look (take n bytes)) (length (take n bytes)) n (moved look (take n bytes)) (drop n bytes) size
    (sym (found-append look (take n bytes) (drop n bytes)) ∙ (ap (found look) (take-append-drop n bytes) ∙ h))

-- those bytes end where it does
pub front_ends : (bytes : List ℕ) (n : ℕ) → found of_head bytes ≡ Whole n → found of_head (take n bytes) ≡ Whole (length (take n bytes))
front_ends bytes n h =
    let size : length (take n bytes) ≡ n = length-take-le n bytes (whole_within of_head bytes n h).length in
    whole_front of_head bytes n h ∙ ap Whole (sym size)

-- a head has few lines
pub whole_lines : (text : List ℕ) → found of_head text ≡ Whole (length text) → lines text ≤ 66
whole_lines text h = subst (λ t. lines t ≤ 66) (take_all (length text) text (search arith)) (whole_within of_head text (length text) h).lines

pub end_inside : (bytes : List ℕ) (n : ℕ) → found of_head bytes ≡ Whole n → n ≤ length bytes
end_inside bytes n h = (whole_within of_head bytes n h).length
