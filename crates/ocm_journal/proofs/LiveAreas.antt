-- Which area of an image is live.
use Rattle.std.proofs.Common.{◌≡◌, ◌≤◌, ◌==◌, inl, inr, ℕ, ◌+◌, List, [], ◌∷◌, length, get_or, not, sym, ◌∙◌, ap, arith}
use Rattle.std.proofs.lemmas.Bool.{cases_eq}
use Rattle.std.proofs.lemmas.Bool.Decides.{nat_tests}
use Rattle.ocm_disk.specs.declared.disk.Disk.{Ghosts}
use Rattle.ocm_journal_image.specs.Layout.{IsImage, HoldsAt, named, live_start}
use Rattle.ocm_journal.specs.declared.journal.Journal.{Journal}
use Rattle.ocm_journal.specs.Journals.{IsImageWith, IsOther, StandsFor, first_is_live, selects_first}
use Rattle.ocm_journal.proofs.Appended.{length-named}
use Rattle.ocm_journal.proofs.Holding.{byte_held, holds_second}

-- the selector of an image is the byte behind its area size
selector_byte : (label : List ℕ) (area form : ℕ) (records : List (List ℕ)) (bytes : List ℕ) (image : IsImage label area form records bytes) → get_or bytes (17 + length label) 0 ≡ image.selector
selector_byte label area form records bytes image =
    let at : ℕ = 0 + length (1 ∷ named label area) in
    let place : at ≡ 17 + length label = omega (arith, length-named label area) in
    let held : HoldsAt bytes at (image.selector ∷ []) = holds_second bytes 0 (1 ∷ named label area) (image.selector ∷ []) image.front in
    ap (λ k. get_or bytes k 0) (sym place) ∙ byte_held bytes at image.selector held (omega (arith, place, image.label_size.1, image.header))

first_by_start : (area selector start : ℕ) → 1792 ≤ area → live_start area selector ≡ start → (selector == 1) ≡ (start == 512)
first_by_start area selector start least is = elim (cases_eq selector 1) [
  | inl one ↦ let low : start ≡ 512 = sym is ∙ ap (λ k. live_start area k) one in grind (arith, nat_tests, one, low)
  | inr other ↦ let high : start ≡ 512 + area = sym is ∙ grind (arith, nat_tests, other) in grind (arith, nat_tests, other, high, least)
]

-- an image whose live area begins here
pub with_start : (label : List ℕ) (area form : ℕ) (records : List (List ℕ)) (bytes : List ℕ) (start : ℕ) (image : IsImage label area form records bytes) → live_start area image.selector ≡ start → IsImageWith (start == 512) label area form records bytes
with_start label area form records bytes start image is = (image, ap (λ k. k == 1) (selector_byte label area form records bytes image) ∙ first_by_start area image.selector start image.area_size.0 is)

-- the other area is another one
pub first_of_other : (area start other byte : ℕ) → 1792 ≤ area → IsOther area start other byte → (other == 512) ≡ not (start == 512)
first_of_other area start other byte least (inl (at, o, k)) = grind (arith, nat_tests, at, o, least)
first_of_other area start other byte least (inr (at, o, k)) = grind (arith, nat_tests, at, o, least)

-- the journal's live area is the one that its disk selects
pub live_is_selected : {D : Type 0} (disk : Ghosts D) (label : List ℕ) (records : List (List ℕ)) (journal : Journal D disk) → StandsFor disk label records journal → first_is_live journal ≡ selects_first label (disk.seen journal.disk)
live_is_selected disk label records journal s = sym (with_start label journal.area journal.form records (disk.seen journal.disk) journal.start s.image s.start).1
